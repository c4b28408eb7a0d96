-- Both shares, with their signs, fit.
use mathlib.Core.Path.{refl, ap, ◌∙◌}
use native.Mathlib.Omega.{arith}
use lib.IntN.{ℤ, pos, nat_abs, ◌+ℤ◌}
use borrow.Author.Tests.{le-leb, lt-leb}
use Rattle.std.specs.Int.{int_max}
use Rattle.arith.proofs.Machine.{M, M.◌⊞◌, nat, call, fits, value, result}
use Rattle.shear.specs.Shear.{axial_share, or_zero, VRdc}
use Rattle.shear.specs.Shear as shear
use Rattle.shear.proofs.Roots.{concrete-high, c-in, axial-in, max_is}
use Rattle.shear.proofs.Sheared.resistance.Goals as goal
use Rattle.shear.proofs.Sheared.resistance.Goals.{After-concrete_share, After-axial_share}

pub returns-then-self-lt1 : goal.returns-then-self-lt1
unfolding VRdc
returns-then-self-lt1 c = rw (← c.self.view_is, lt-leb 1 _ c.if-self-lt1.true)

-- the concrete's share, as the code has it
abbrev concrete : After-concrete_share → M
concrete c =
    let h = c.self.invariant in
    nat c.concrete_share.result {B = 6771812} (rw (c.concrete_share.ensures, ← c.self.view_is) (concrete-high h.crd-high h.stress)) tt

-- the sum of both
abbrev sum : After-axial_share → M
sum c =
    let x = c.self.inside in
    let h = c.self.invariant in
    concrete c.before ⊞ call {B = 14992500000000} c.axial_share.type_inv c.axial_share.ensures
    (rw (← c.self.view_is) (axial-in x.h (omega (arith, h.h-low)) (c-in h.N-in h.g-high h.stress.b-high h.h-high) h.stress.dm-high))

pub overflow_cast-sum : goal.overflow_cast-sum
overflow_cast-sum c = fits (concrete c) tt

pub overflow_add-sum : goal.overflow_add-sum
overflow_add-sum c = fits (sum c) tt

pub returns : goal.returns
unfolding VRdc
returns c =
    let a = c.before in
    let x = c.args.self.now in
    ap nat_abs (result c.max.type_inv (c.max.ensures.value ∙ ap (λ (x : ℤ). int_max x (pos 0)) (value (sum a) tt)))
    ∙ max_is (pos c.concrete_share.result +ℤ axial_share (shear.c x.N x.g x.b x.h) x.dm x.h)
    ∙ (rw (c.concrete_share.ensures, ← c.self.view_is, le-leb 1 _ c.if-self-lt1.false) refl)
