-- The products are small, and the quotient is the formula rounded down.
use native.Mathlib.Nat.{mul-le-mul}
use native.Mathlib.Omega.{arith}
use Rattle.materials.proofs.Strength.{eta_high, f_is}
use Rattle.materials.proofs.PartialFactors.block_strength.Goals as goal

pub overflow_mul-result : goal.overflow_mul-result
overflow_mul-result c = omega (arith, mul-le-mul (eta_high _ _ c.requires.eta_is) c.requires.in_range.1)

pub overflow_mul-result-2 : goal.overflow_mul-result-2
overflow_mul-result-2 c = omega (arith, mul-le-mul (mul-le-mul (eta_high _ _ c.requires.eta_is) c.requires.in_range.1) c.requires.in_range.0)

pub returns : goal.returns
returns c = f_is c.args.self _ _ _ c.requires.eta_is
