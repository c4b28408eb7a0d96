-- The last of the tenths tried so far.
use Prim.Native.Nat.{◌+◌, ◌-◌, ◌*◌, ◌≤◌}
use mathlib.Core.Path.{refl}
use native.Mathlib.Nat.{mul-le-mul, le_refl}
use native.Mathlib.Omega.{arith}
use Rattle.links.specs.Links.{Truss}
use Rattle.links.specs.Code.Ranges.{TrussBounds}
use Rattle.links.proofs.Last.{next}
use Rattle.links.proofs.Order.{links_less, strut_less}
use Rattle.links.proofs.Truss.crossing.Goals as goal

-- what is multiplied, step by step
module _ (x : Truss) (w : TrussBounds x) where
  steel-high : 25 * x.area * x.s ≤ 7500000000
  steel-high = mul-le-mul (mul-le-mul (le_refl 25) w.area-high) w.s-high

  weakened : 6 * x.b * (250 - x.fck) ≤ 3000000
  weakened = let h : 250 - x.fck ≤ 250 = omega arith in mul-le-mul (mul-le-mul (le_refl 6) w.b-high) h

  concrete-high : 6 * x.b * (250 - x.fck) * x.g * x.spacing ≤ 22500000000000
  concrete-high = mul-le-mul (mul-le-mul weakened w.g-high) w.spacing_high

pub overflow_mul-concrete-4 : goal.overflow_mul-concrete-4
overflow_mul-concrete-4 c = omega (arith, concrete-high _ c.self.invariant)

-- at a tenth up to 25
pub overflow_mul-steel-in-loop-c : goal.overflow_mul-steel-in-loop-c
overflow_mul-steel-in-loop-c c =
    let l = c.loop-c in
    let high : l.c ≤ 25 = omega arith in
    let square : l.c * l.c ≤ 625 = mul-le-mul high high in
    let sum : l.c * l.c + 100 ≤ 725 = omega (arith, square) in
    omega (arith, mul-le-mul (steel-high _ c.self.invariant) sum)

pub loop-c-preserved : goal.loop-c-preserved
loop-c-preserved c =
    let l = c.loop-c in
    (omega arith, (omega arith, rw c.either-last.ensures (next _ l.invariant.0 refl l.invariant.1.1)))

pub returns-clause-crossing : goal.returns-clause-crossing
returns-clause-crossing c =
    let w = c.loop-c.invariant.1.1 in
    let h = c.self.invariant in
    rw (← c.self.view_is) record {
      low = w.low;
      high = omega (arith, w.high, c.loop-c.invariant.1.0);
      below = λ t a b. links_less _ h t (omega arith) (w.below t a b);
      above = λ t a b. strut_less _ h t (omega (arith, w.low)) (w.above t a (omega arith));
    }
