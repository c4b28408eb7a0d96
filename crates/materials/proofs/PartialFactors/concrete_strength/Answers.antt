-- The product is small, and the quotient is the formula rounded down.
use Rattle.materials.proofs.Strength.{g_is}
use Rattle.materials.proofs.PartialFactors.concrete_strength.Goals as goal

pub returns : goal.returns
returns c = g_is c.args.self _ c.args.fck
