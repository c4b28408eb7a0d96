-- The cap is small, and std's lesser of the two is the rule's.
use Prim.Native.Nat.{◌*◌, ◌/◌}
use mathlib.Core.Path.{◌≡◌, ◌∙◌}
use native.Mathlib.Omega.{arith}
use mir.Facts.{to_z-of_z}
use mir.Syntax.{w64}
use mir.Val.{to_z, of_z}
use Rattle.std.specs.Int.{int_min}
use Rattle.arith.proofs.Bound.{fits64}
use Rattle.arith.proofs.Machine.{M, nat, value, result}
use Rattle.shear.specs.Shear.{c}
use Rattle.shear.proofs.Roots.{cap_high, min_is}
use Rattle.shear.proofs.Sheared.counted_force.Goals as goal

pub returns-clause-value : goal.returns-clause-value
unfolding c
returns-clause-value s =
    let x = s.self.inside in
    let h = s.self.invariant in
    let cap : M = nat (x.g * x.b * x.h / 500) {B = 60000000} (omega (arith, cap_high h.g-high h.stress.b-high h.h-high)) tt in
    let force : to_z w64 (of_z w64 x.n) ≡ x.n = to_z-of_z (fits64 h.N-in tt) in
    rw (← s.self.view_is) (result s.min.type_inv (s.min.ensures.value ∙ (λ i. int_min (force i) (value cap tt i)) ∙ min_is x.n _))
