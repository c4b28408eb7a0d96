-- At depth 1 every layer stands at −s/100, whatever its own depth: so refusal 11 is one comparison of numbers, without a walk over the
-- layers, and never depends on the face. Assumes nothing.
use Prim.Native.Nat.{ℕ, ◌+◌, ◌*◌, ◌≤◌}
use mathlib.Core.Bool.{Bool, true, false}
use mathlib.Core.List.{List, [], ◌∷◌}
use mathlib.Core.Path.{◌≡◌, refl, sym, ap, ◌∙◌}
use native.Mathlib.Nat.{mul-le-mul_left}
use native.Mathlib.Omega.{arith}
use lib.IntN.{ℤ, pos}
use lib.Signed.{le_z, ◌≤ℤ◌, ◌<ℤ◌}
use Rattle.arith.proofs.Ring.{E, #, ◌⊕◌, ◌⊝◌, ◌⊗◌, le!, le?, lt!, lt?}
use Rattle.arith.proofs.Test.{both_true, le-true, le-false, true-le, false-le}
use Rattle.section.specs.declared.Layer.{Layer}
use Rattle.section.specs.declared.Design.{Design}
use Rattle.section.specs.Section.{all, depth_ok}
use Rattle.section.specs.Code.Usable.{Bounded, Usable}
use Rattle.section.specs.Turned.{turned}
use Rattle.equilibrium.specs.Refusals.{carries}
use Rattle.section.specs.Code.Accepted.{area_sum}
use Rattle.equilibrium.specs.Code.Whole.{lift_at, lift_sum, rest_at, carries_at_one, excess}
use Rattle.equilibrium.proofs.Whole.{lifted-low, carries_is}
use Rattle.section.proofs.OneLayer.{layer-low}
use Rattle.section.proofs.Turned.{usable_turned, area-turned}

-- 520·9 is above 600
lift-one : (x : Design) (d : ℕ) → Bounded x → 1 ≤ d → lift_at x 1 d ≡ 0
lift-one x d b h =
    lifted-low ((100 * x.m.e + x.m.s) * 1) (2 * x.m.s * 1) (1000 * x.m.e * d)
    (omega (arith, mul-le-mul_left (1000 * x.m.e) h, b.materials.E-low, b.materials.s-high))

lift-all : (x : Design) (h : ℕ) (ls : List Layer) → Bounded x → all (depth_ok h) ls ≡ true → lift_sum x ls 1 ≡ 0
unfolding lift_sum
lift-all x h [] b e = refl
lift-all x h (l ∷ ls) b e =
    let t = both_true (depth_ok h l) (all (depth_ok h) ls) e in
    rw (lift-one x l.depth b (layer-low h l t.0)) (omega (arith, lift-all x h ls b t.1))

module _ {x : Design} {n : ℕ} (ls : List Layer) (N : ℤ) (w : Usable x n ls) where
  abbrev concrete : ℤ
  concrete = pos (x.m.f * x.m.l * x.b)

  abbrev rest : ℤ
  rest = rest_at x (area_sum ls) N

  abbrev here : E
  here = (# (pos (x.m.f * x.m.l * x.b * 1)) ⊝ # rest) ⊗ # (pos 1) ⊕ # (pos (800 * lift_sum x ls 1))

  no_lift : lift_sum x ls 1 ≡ 0
  no_lift = lift-all x x.h ls w.bounded w.depths

  over_one : rest <ℤ concrete → carries x ls N 1 ≡ false
  unfolding excess
  over_one h = carries_is x ls N (omega arith) ∙ false-le (excess x ls N 1) (pos 0) (lt! (# (pos 0)) here (omega (arith, lt? (# rest) (# concrete) h)))

  under_one : concrete ≤ℤ rest → carries x ls N 1 ≡ true
  unfolding excess
  under_one h = carries_is x ls N (omega arith) ∙ true-le (excess x ls N 1) (pos 0) (le! here (# (pos 0)) (omega (arith, le? (# concrete) (# rest) h, no_lift)))

  -- 11 is that comparison
  one_is : carries x ls N 1 ≡ carries_at_one x (area_sum ls) N
  one_is = go (le_z concrete rest) refl
    where
      go : (t : Bool) → le_z concrete rest ≡ t → carries x ls N 1 ≡ t
      go true h = under_one (le-true concrete rest h)
      go false h = over_one (le-false concrete rest h)

-- of the area that the code has summed
pub one_by : {x : Design} {n steel : ℕ} (ls : List Layer) (N : ℤ) → Usable x n ls → steel ≡ area_sum ls → carries x ls N 1 ≡ carries_at_one x steel N
one_by {x} ls N w e = one_is ls N w ∙ ap (λ (a : ℕ). carries_at_one x a N) (sym e)

-- the same for both faces
pub one-turned : {x : Design} {n : ℕ} (ls : List Layer) (N : ℤ) → Usable x n ls → carries x (turned x.h ls) N 1 ≡ carries x ls N 1
one-turned {x} ls N w = one_by (turned x.h ls) N (usable_turned ls w) (sym (area-turned x.h ls)) ∙ sym (one_is ls N w)
