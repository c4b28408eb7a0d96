-- The quotient is 100·CRd,c.
use Rattle.materials.proofs.Strength.{crd_is}
use Rattle.materials.proofs.PartialFactors.shear_factor.Goals as goal

pub returns : goal.returns
returns c = crd_is c.args.self
