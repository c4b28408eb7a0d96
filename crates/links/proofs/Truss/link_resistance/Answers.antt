-- The products fit, and what they come to is (6.8) in whole numbers.
use Prim.Native.Nat.{◌*◌, ◌≤◌}
use mathlib.Core.Path.{sym}
use native.Mathlib.Nat.{mul-le-mul, le_refl}
use native.Mathlib.Omega.{arith}
use Rattle.links.specs.Links.{Truss}
use Rattle.links.specs.Code.Ranges.{TrussBounds}
use Rattle.links.proofs.Whole.{link_is}
use Rattle.links.proofs.Truss.link_resistance.Goals as goal

-- what is multiplied, step by step
module _ (x : Truss) (w : TrussBounds x) where
  arm : 9 * x.area * x.dm ≤ 89955000
  arm = mul-le-mul (mul-le-mul (le_refl 9) w.area-high) w.dm-high

  force : 9 * x.area * x.dm * x.s ≤ 5397300000000
  force = mul-le-mul arm w.s-high

pub overflow_mul-result-4 : goal.overflow_mul-result-4
overflow_mul-result-4 c = omega (arith, mul-le-mul (force _ c.self.invariant) c.requires.1)

pub returns : goal.returns
returns c = rw (← c.self.view_is) (sym (link_is _ c.args.c c.self.invariant.spacing_low c.requires.0))
