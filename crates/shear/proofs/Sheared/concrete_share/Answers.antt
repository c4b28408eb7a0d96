-- The products are small by the bounds of v.
use native.Mathlib.Nat.{mul-le-mul}
use native.Mathlib.Omega.{arith}
use mathlib.Core.Path.{refl}
use Rattle.shear.specs.Shear.{concrete_share}
use Rattle.shear.proofs.Roots.{v_high, product_high}
use Rattle.shear.proofs.Sheared.concrete_share.Goals as goal

pub overflow_mul-result : goal.overflow_mul-result
overflow_mul-result c =
    let x = c.self.inside in
    let h = c.self.invariant in
    rw (c.concrete_stress.ensures, ← c.self.view_is) (omega (arith, mul-le-mul (v_high h.crd-high x.b x.fck x.area x.dm) h.stress.b-high))

pub overflow_mul-result-2 : goal.overflow_mul-result-2
overflow_mul-result-2 c =
    let h = c.self.invariant in
    rw (c.concrete_stress.ensures, ← c.self.view_is) (omega (arith, product_high h.crd-high h.stress))

pub returns : goal.returns
unfolding concrete_share
returns c = rw (c.concrete_stress.ensures, ← c.self.view_is) refl
