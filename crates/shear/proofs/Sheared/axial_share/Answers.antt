-- The products are small, and their quotient is the share rounded down.
use Prim.Native.Nat.{◌*◌}
use mathlib.Core.Path.{refl, sym, ◌∙◌}
use native.Mathlib.Omega.{arith}
use lib.IntN.{pos}
use Rattle.arith.specs.Floor.{floor_div}
use Rattle.arith.proofs.Machine.{M, M.num, M.◌⊠◌, nat, call, fits, value, result}
use Rattle.shear.proofs.Roots.{axial_is}
use Rattle.shear.proofs.Sheared.axial_share.Goals as goal
use Rattle.shear.proofs.Sheared.axial_share.Goals.{After-counted_force, After-self}

-- 15·c and 15·c·dm, and 100·h, as the code has them
abbrev first : After-counted_force → M
first c = num (pos 15) ⊠ call c.counted_force.type_inv refl c.counted_force.ensures.small

abbrev above : After-self → M
above c = first c.before ⊠ nat c.self.inside.dm c.self.invariant.stress.dm-high tt

abbrev below : After-self → M
below c = nat (100 * c.self.inside.h) {B = 200000} (omega (arith, c.self.invariant.h-high)) tt

pub overflow_mul-counted_force-2 : goal.overflow_mul-counted_force-2
overflow_mul-counted_force-2 c = fits (above (goal.at.overflow_mul-counted_force-2 c).After-self) tt

pub returns : goal.returns
returns c =
    let x = c.self.inside in
    let at = (goal.at.returns c).After-self in
    rw (← c.counted_force.ensures.value, ← c.self.view_is)
    (result c.floor_div.type_inv
    (c.floor_div.ensures ∙ (λ i. floor_div (value (above at) tt i) (value (below at) tt i))
    ∙ sym (axial_is c.counted_force.result x.dm x.h (omega (arith, c.self.invariant.h-low)))))
