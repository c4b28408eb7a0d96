-- Where no layer is in tension the internal force is above 0: so under N 0 some layer is, and the depth is up to 10h. Assumes nothing.
use Prim.Native.Nat.{ℕ, ◌*◌, ◌≤◌}
use mathlib.Core.Bool.{Bool, true}
use mathlib.Core.List.{List, [], ◌∷◌}
use mathlib.Core.Path.{◌≡◌, refl, sym, ◌∙◌}
use native.Mathlib.Nat.{le-min, mul-le-mul_left, mul-pos}
use native.Mathlib.Omega.{arith}
use lib.IntN.{pos}
use Rattle.arith.specs.Fraction.{integer}
use Rattle.arith.proofs.Fraction.{<ᶠ→≤ᶠ, Tested, Tested.below, Tested.above, tested}
use Rattle.arith.proofs.Ring.{#, ◌⊕◌, ◌⊝◌, ◌⊗◌, le?}
use Rattle.arith.proofs.Test.{le-true, both_true}
use Rattle.section.specs.declared.Layer.{Layer}
use Rattle.section.specs.declared.Design.{Design}
use Rattle.section.specs.Section.{all, depth_ok}
use Rattle.section.specs.Code.Usable.{Bounded, Usable}
use Rattle.section.proofs.OneLayer.{layer-high}
use Rattle.section.specs.Code.Accepted.{area_sum}
use Rattle.equilibrium.specs.Force.{at, internal_force}
use Rattle.equilibrium.specs.Refusals.{carries, up_to_10h}
use Rattle.equilibrium.specs.Code.Whole.{lift_at, lift_sum, rest_at, excess}
use Rattle.equilibrium.proofs.Accuracy.{carry}
use Rattle.equilibrium.proofs.Sizes.{concrete-low}
use Rattle.equilibrium.proofs.Whole.{carries_is}

-- no layer lies below the neutral axis
unfoldable pub Pressed : ℕ → List Layer → Type 0
Pressed u [] = Unit {0}
Pressed u (l ∷ ls) = (10 * l.depth ≤ u) × Pressed u ls

module _ (x : Design) (u : ℕ) where
  -- so each stands at least at 0, which is so much above −s/100
  lift-least : (d : ℕ) → 10 * d ≤ u → x.m.s * u ≤ lift_at x u d
  lift-least d h = le-min (omega (arith, mul-le-mul_left (100 * x.m.e) h)) (omega arith)

  lift-all-least : (ls : List Layer) → Pressed u ls → area_sum ls * (x.m.s * u) ≤ lift_sum x ls u
  unfolding Pressed area_sum lift_sum
  lift-all-least [] h = omega arith
  lift-all-least (l ∷ ls) h = omega (arith, mul-le-mul_left l.area (lift-least l.depth h.0), lift-all-least ls h.1)

  pub not_pressed : (ls : List Layer) → Bounded x → 1 ≤ u → Pressed u ls → carries x ls (pos 0) u ≡ true → ⊥
  unfolding excess
  not_pressed ls b low h e =
      let concrete : 1 ≤ x.m.f * x.m.l * x.b * u * u = mul-pos (mul-pos (concrete-low b) low) low in
      let rest = rest_at x (area_sum ls) (pos 0) in
      let here = (# (pos (x.m.f * x.m.l * x.b * u)) ⊝ # rest) ⊗ # (pos u) ⊕ # (pos (800 * lift_sum x ls u)) in
      let most = le? here (# (pos 0)) (le-true (excess x ls (pos 0) u) (pos 0) (sym (carries_is x ls (pos 0) low) ∙ e)) in
      omega (arith, concrete, most, lift-all-least ls h)

-- from 10h on no layer lies below the neutral axis
pressed_from : (h u : ℕ) (ls : List Layer) → 10 * h ≤ u → all (depth_ok h) ls ≡ true → Pressed u ls
unfolding Pressed
pressed_from h u [] m e = tt
pressed_from h u (l ∷ ls) m e =
    let t = both_true (depth_ok h l) (all (depth_ok h) ls) e in
    (omega (arith, layer-high h l t.0), pressed_from h u ls m t.1)

-- so N 0 is at most the internal force at 10h
pub none_over : {x : Design} {n : ℕ} (ls : List Layer) → Usable x n ls → up_to_10h x ls (pos 0) ≡ true
unfolding up_to_10h
none_over {x} ls w = go (tested (integer (pos 0)) (internal_force x ls (at (10 * x.h))))
  where
    go : {t : Bool} → Tested (integer (pos 0)) (internal_force x ls (at (10 * x.h))) t → t ≡ true
    go (below h) = refl
    go (above h) =
        absurd (not_pressed x (10 * x.h) ls w.bounded (omega (arith, w.bounded.h-low)) (pressed_from x.h (10 * x.h) ls (omega arith) w.depths)
        (carry x ls (pos 0) (10 * x.h) (<ᶠ→≤ᶠ h)))
