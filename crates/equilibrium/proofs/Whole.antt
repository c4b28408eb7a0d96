-- At a whole depth u stress, force and moment are integers over a natural: what the code computes. Assumes nothing.
use Prim.Native.Nat.{ℕ, ◌+◌, ◌-◌, ◌*◌, ◌≤◌}
use mathlib.Core.List.{List, [], ◌∷◌}
use mathlib.Core.Path.{◌≡◌, refl, ap, ap₂, ◌∙◌}
use mathlib.Core.Bool.{Bool, true, false, cond}
use native.Mathlib.Nat.{zero-min, min-eq_left, min-eq_right}
use native.Mathlib.Omega.{arith}
use borrow.Author.Tests.{leb-true, leb-false}
use lib.Dec.{leb}
use lib.IntN.{ℤ, pos}
use lib.Signed.{le_z}
use Rattle.arith.specs.Fraction.{Fraction, Proper, whole, integer, ratio, ◌+ᶠ◌, ◌-ᶠ◌, ◌*ᶠ◌, ◌/ᶠ◌, ◌÷ᶠ◌}
use Rattle.arith.specs.Fraction.{Same, left, right, at_most, held, floor}
use Rattle.arith.specs.Floor.{floor_div}
use Rattle.arith.proofs.Ring.{E, #, ◌⊕◌, ◌⊝◌, ◌⊗◌, val}
use Rattle.arith.proofs.Fraction.{tidy, proper, +ᶠ-proper, *ᶠ-comm}
use Rattle.arith.proofs.Quotient.{integer-per, same_trans, same_add, same_mul, same_at-most, same_at-least, per, per_proper, by_value, floor_same, test_is}
use Rattle.section.specs.declared.Layer.{Layer}
use Rattle.section.specs.declared.Design.{Design}
use Rattle.equilibrium.specs.Force.{at, concrete_force, stress, layer_force, steel_force, internal_force, concrete_moment, layer_moment}
use Rattle.beyond.specs.Code.Whole.{block_moment}
use Rattle.equilibrium.specs.Refusals.{carries, up_to_10h}
use Rattle.section.specs.Code.Accepted.{area_sum}
use Rattle.equilibrium.specs.Code.Whole.{lifted, lift_at, stress_at, lift_sum, excess}
use Rattle.equilibrium.proofs.Rising.{at_positive, force_proper}
use Rattle.equilibrium.proofs.Nearness.{concrete-moment_proper, layer-moment_proper}

-- ---- a layer

-- what is held, by the two tests
module _ (climb most start : ℕ) where
  pub lifted-low : climb ≤ start → lifted climb most start ≡ 0
  lifted-low h = let e : climb - start ≡ 0 = omega arith in rw (e, zero-min)

  lifted-high : most + start ≤ climb → lifted climb most start ≡ most
  lifted-high h = min-eq_right (omega arith)

  lifted-free : climb ≤ most + start → lifted climb most start ≡ climb - start
  lifted-free h = min-eq_left (omega arith)

module _ (x : Design) (l : Layer) {u : ℕ} (low : 1 ≤ u) where
  abbrev climb : ℕ
  climb = (100 * x.m.e + x.m.s) * u

  abbrev most : ℕ
  most = 2 * x.m.s * u

  abbrev start : ℕ
  start = 1000 * x.m.e * l.depth

  abbrev free-stress : Fraction
  free-stress = whole x.m.e *ᶠ (ratio (at u) -ᶠ whole (10 * l.depth)) ÷ᶠ at u

  abbrev least : Fraction
  least = whole 0 -ᶠ whole x.m.s /ᶠ 100

  abbrev greatest-stress : Fraction
  greatest-stress = whole x.m.s /ᶠ 100

  low_is : at_most free-stress least ≡ leb climb start
  unfolding at_most whole ratio at ◌*ᶠ◌ ◌-ᶠ◌ ◌/ᶠ◌ ◌÷ᶠ◌
  low_is =
      let h : left free-stress least ≡ climb = simp tidy (omega arith) in
      let k : right free-stress least ≡ start = simp tidy (omega arith) in
      ap₂ (λ s t. leb s t) h k

  high_is : at_most greatest-stress free-stress ≡ leb (x.m.s * u + start) (100 * x.m.e * u)
  unfolding at_most whole ratio at ◌*ᶠ◌ ◌-ᶠ◌ ◌/ᶠ◌ ◌÷ᶠ◌
  high_is =
      let h : left greatest-stress free-stress ≡ x.m.s * u + start = simp tidy (omega arith) in
      let k : right greatest-stress free-stress ≡ 100 * x.m.e * u = simp tidy (omega arith) in
      ap₂ (λ s t. leb s t) h k

  -- the stress, as a lift from its least value
  abbrev above : ℕ → Fraction
  above lift = record { plus = lift; minus = x.m.s * u; over = 100 * u }

  by_tests : (s t : Bool) → leb climb start ≡ s → leb (x.m.s * u + start) (100 * x.m.e * u) ≡ t →
      Same (cond s least (cond t greatest-stress free-stress)) (above (lift_at x u l.depth))
  unfolding whole ratio at ◌*ᶠ◌ ◌-ᶠ◌ ◌/ᶠ◌ ◌÷ᶠ◌
  by_tests true t e f = rw (lifted-low climb most start (leb-true climb start e)) (record { same = simp tidy (omega arith) })
  by_tests false true e f =
      rw (lifted-high climb most start (omega (arith, leb-true (x.m.s * u + start) (100 * x.m.e * u) f))) (record { same = simp tidy (omega arith) })
  by_tests false false e f =
      let h : start ≤ climb = omega (arith, leb-false climb start e) in
      let k : climb ≡ start + (climb - start) = omega arith in
      let m = ap (λ (t : ℕ). t * u) k in
      rw (lifted-free climb most start (omega (arith, leb-false (x.m.s * u + start) (100 * x.m.e * u) f))) (record { same = simp tidy (omega (arith, m)) })

  stress_is : Same (stress x l (at u)) (above (lift_at x u l.depth))
  unfolding stress held
  stress_is = rw (low_is, high_is) (by_tests (leb climb start) (leb (x.m.s * u + start) (100 * x.m.e * u)) refl refl)

  stress-per : Same (stress x l (at u)) (per (100 * u) (stress_at x l u))
  stress-per =
      by_value (# (pos (lift_at x u l.depth)) ⊝ # (pos (x.m.s * u))) (omega arith)
      (same_trans {b = above (lift_at x u l.depth)} (record { over_pos = omega arith }) stress_is (omega arith))

  -- A·(h − 2d) times it, over 200·u, is the layer's moment
  abbrev moment : E
  moment = # (pos l.area) ⊗ # (stress_at x l u) ⊗ (# (pos x.h) ⊝ # (pos (2 * l.depth)))

  moment_same : Same (layer_moment x l (at u)) (per (200 * u) (val moment))
  unfolding layer_moment layer_force
  moment_same =
      let c : Fraction = whole x.h /ᶠ 2 -ᶠ whole l.depth in
      let s : Fraction = per (100 * u) (stress_at x l u) in
      let ps = per_proper {m = 100 * u} (stress_at x l u) (omega arith) in
      by_value moment (omega arith)
      (same_trans {b = s *ᶠ whole l.area *ᶠ c} (search proper)
      (rw (*ᶠ-comm (whole l.area) (stress x l (at u))) (same_mul c (same_mul (whole l.area) stress-per)))
      (unfold whole ◌*ᶠ◌ ◌-ᶠ◌ ◌/ᶠ◌ in record { same = simp tidy (omega arith) }))

  pub layer-floor : floor (layer_moment x l (at u)) ≡ floor_div (val moment) (pos (200 * u))
  layer-floor = floor_same (val moment) (layer-moment_proper x (at_positive u low) l) (omega arith) moment_same

-- ---- the concrete: k is L·u, and not above 800h

module _ (x : Design) (u : ℕ) (low : 1 ≤ u) (high : x.m.l * u ≤ 800 * x.h) where
  abbrev product : ℕ
  product = x.m.f * x.b * (x.m.l * u * (800 * x.h - x.m.l * u))

  concrete_same : Same (concrete_moment x (at u)) (per 128000000 (pos product))
  unfolding concrete_moment whole ratio at ◌*ᶠ◌ ◌-ᶠ◌ ◌/ᶠ◌
  concrete_same =
      let e : 800 * x.h ≡ x.m.l * u + (800 * x.h - x.m.l * u) = omega arith in
      let k = ap (λ (t : ℕ). x.m.f * x.m.l * x.b * u * t) e in
      record { same = simp tidy (omega (arith, k)) }

  pub concrete-floor : floor (concrete_moment x (at u)) ≡ pos (block_moment x.m.f x.b x.h (x.m.l * u))
  unfolding floor_div
  concrete-floor = floor_same (pos product) (concrete-moment_proper x (at_positive u low)) (omega arith) concrete_same

-- ---- the force

module _ (x : Design) {u : ℕ} (low : 1 ≤ u) where
  -- so much lift, from so much area at its least stress
  abbrev steel : ℕ → ℕ → Fraction
  steel lift area = record { plus = lift; minus = area * (x.m.s * u); over = 100 * u }

  steel_proper : (lift area : ℕ) → Proper (steel lift area)
  steel_proper lift area = record { over_pos = omega arith }

  layer_is_lem : (l : Layer) → Same (layer_force x l (at u)) (steel (l.area * lift_at x u l.depth) l.area)
  unfolding layer_force
  layer_is_lem l =
      let s : Fraction = above x l low (lift_at x u l.depth) in
      let ps : Proper s = record { over_pos = omega arith } in
      same_trans {b = s *ᶠ whole l.area} (search proper)
      (rw (*ᶠ-comm (whole l.area) (stress x l (at u))) (same_mul (whole l.area) (stress_is x l low)))
      (unfold whole ◌*ᶠ◌ in record { same = simp tidy (omega arith) })

  steel_is : (ls : List Layer) → Same (steel_force x ls (at u)) (steel (lift_sum x ls u) (area_sum ls))
  unfolding steel_force lift_sum area_sum
  steel_is [] = unfold whole in omega arith
  steel_is (l ∷ ls) =
      same_trans (+ᶠ-proper (steel_proper _ _) (steel_proper _ _)) (same_add (layer_is_lem l) (steel_is ls)) (unfold ◌+ᶠ◌ in omega arith)

  concrete_is : Same (concrete_force x (at u)) (per (80000 * u) (pos (x.m.f * x.m.l * x.b * u * u)))
  unfolding concrete_force whole ratio at ◌*ᶠ◌ ◌/ᶠ◌
  concrete_is = record { same = simp tidy (omega arith) }

  -- f·L·b·u·u and the steel
  abbrev force : ℕ → ℕ → Fraction
  force lift area = record { plus = x.m.f * x.m.l * x.b * u * u + 800 * lift; minus = 800 * (area * (x.m.s * u)); over = 80000 * u }

  force_is_lem : (ls : List Layer) → Same (internal_force x ls (at u)) (force (lift_sum x ls u) (area_sum ls))
  unfolding internal_force
  force_is_lem ls =
      let c : ℤ = pos (x.m.f * x.m.l * x.b * u * u) in
      same_trans (+ᶠ-proper (per_proper c (omega arith)) (steel_proper (lift_sum x ls u) (area_sum ls))) (same_add concrete_is (steel_is ls))
      (unfold ◌+ᶠ◌ in omega arith)

-- ---- the comparison

module _ (x : Design) (ls : List Layer) (z : ℤ) {u : ℕ} (low : 1 ≤ u) where
  abbrev difference : E
  difference =
      (# (pos (x.m.f * x.m.l * x.b * u)) ⊝ (# (pos 80000) ⊗ # z ⊕ # (pos (800 * x.m.s * area_sum ls)))) ⊗ # (pos u)
      ⊕ # (pos (800 * lift_sum x ls u))

  abbrev force-here : Fraction
  force-here = force x low (lift_sum x ls u) (area_sum ls)

  proper_force : Proper force-here
  proper_force = record { over_pos = omega arith }

  pub carries_is : carries x ls z u ≡ le_z (excess x ls z u) (pos 0)
  unfolding carries excess
  carries_is =
      same_at-most (integer z) (force_proper x (at_positive u low) ls) proper_force (force_is_lem x low ls)
      ∙ rw (integer-per z) (test_is force-here _ difference (# (pos 0)) (omega arith) (omega arith))

  pub at_least : at_most (integer z) (internal_force x ls (at u)) ≡ le_z (pos 0) (excess x ls z u)
  unfolding excess
  at_least =
      same_at-least (integer z) (force_proper x (at_positive u low) ls) proper_force (force_is_lem x low ls)
      ∙ rw (integer-per z) (test_is _ force-here (# (pos 0)) difference (omega arith) (omega arith))

pub up_to_is : (x : Design) (ls : List Layer) (z : ℤ) → 1 ≤ x.h → up_to_10h x ls z ≡ le_z (pos 0) (excess x ls z (10 * x.h))
unfolding up_to_10h
up_to_is x ls z h = at_least x ls z (omega arith)
