-- The quotient is the formula rounded down.
use Rattle.materials.proofs.Strength.{s_is}
use Rattle.materials.proofs.PartialFactors.steel_strength.Goals as goal

pub returns : goal.returns
returns c = s_is c.args.self c.args.fyk
