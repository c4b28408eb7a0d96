-- The products fit, and what they come to is (6.9) in whole numbers.
use Prim.Native.Nat.{◌-◌, ◌*◌, ◌≤◌}
use mathlib.Core.Path.{sym}
use native.Mathlib.Nat.{mul-le-mul, le_refl}
use native.Mathlib.Omega.{arith}
use Rattle.links.specs.Links.{Truss}
use Rattle.links.specs.Code.Ranges.{TrussBounds}
use Rattle.links.proofs.Whole.{strut_is}
use Rattle.links.proofs.Truss.strut_resistance.Goals as goal

-- what is multiplied, step by step
module _ (x : Truss) (w : TrussBounds x) where
  arm : 27 * x.b * x.dm ≤ 107946000
  arm = mul-le-mul (mul-le-mul (le_refl 27) w.b-high) w.dm-high

  weakened : 27 * x.b * x.dm * (250 - x.fck) ≤ 26986500000
  weakened = let h : 250 - x.fck ≤ 250 = omega arith in mul-le-mul arm h

  force : 27 * x.b * x.dm * (250 - x.fck) * x.g ≤ 202398750000000
  force = mul-le-mul weakened w.g-high

pub overflow_mul-result-4 : goal.overflow_mul-result-4
overflow_mul-result-4 c = omega (arith, force _ c.self.invariant)

pub overflow_mul-result-5 : goal.overflow_mul-result-5
overflow_mul-result-5 c = omega (arith, mul-le-mul (force _ c.self.invariant) c.requires.1)

pub returns : goal.returns
returns c = rw (← c.self.view_is) (sym (strut_is _ c.args.c (omega (arith, c.self.invariant.fck_high)) c.requires.0))
