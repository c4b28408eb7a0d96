-- Which part's force never falls with the depth beyond 10h, and which never rises, rounded down. Assumes nothing.
use Prim.Native.Nat.{ℕ, ◌+◌, ◌-◌, ◌*◌, ◌≤◌, ◌<◌}
use mathlib.Core.Bool.{Bool, true, false, cond}
use mathlib.Core.List.{List, [], ◌∷◌}
use mathlib.Core.Path.{◌≡◌, refl, ap}
use native.Mathlib.Nat.{mul-le-mul_left}
use native.Mathlib.Omega.{arith}
use borrow.Author.Tests.{leb-true, leb-false}
use lib.IntN.{pos}
use lib.Signed.{◌≤ℤ◌, ≤ℤ_refl}
use Rattle.arith.specs.Fraction.{Fraction, Proper, whole, ◌-ᶠ◌, ◌*ᶠ◌, ◌/ᶠ◌, ◌÷ᶠ◌, ◌≤ᶠ◌, held, floor}
use Rattle.arith.proofs.Fraction.{tidy, Positive, proper, whole_mono, held_proper, bounds, held_mono, floor_mono}
use Rattle.arith.proofs.Ring.{add_order}
use Rattle.section.specs.declared.Layer.{Layer}
use Rattle.section.specs.declared.Design.{Design}
use Rattle.beyond.specs.Force.{block_depth, concrete_force, below_point, stress, layer_force, steel_force, internal_force}
use Rattle.beyond.specs.Code.Bound.{rises, most, steel_bound, bound}
use Rattle.beyond.specs.Code.Whole.{block, under}

-- ---- the concrete

module _ (x : Design) where
  block_mono : {u v : ℕ} → u ≤ v → block x u ≤ block x v
  block_mono {u} {v} h = omega (arith, mul-le-mul_left x.m.l h)

  pub concrete_proper : (u : ℕ) → Proper (concrete_force x u)
  unfolding concrete_force block_depth
  concrete_proper u = search proper

  concrete-rises : {u v : ℕ} → u ≤ v → floor (concrete_force x u) ≤ℤ floor (concrete_force x v)
  concrete-rises {u} {v} h =
      floor_mono (concrete_proper u) (concrete_proper v)
      (unfold concrete_force block_depth whole ◌*ᶠ◌ ◌/ᶠ◌ in record { le = simp tidy (omega (arith, mul-le-mul_left (x.m.f * x.b) (block_mono h))) })

-- ---- a layer. r is 10·(E − D)·h, t is 10d, and o and p are what stands below the line at u and at v.

module _ (k u v o p e t r : ℕ) (is : e * u ≡ o + r) (js : e * v ≡ p + r) (h : u ≤ v) where
  more : v ≡ u + (v - u)
  more = omega arith

  p_is : p ≡ o + e * (v - u)
  p_is = omega (arith, ap (λ (n : ℕ). e * n) more)

  up : r ≤ t * e → k * u * p + k * t * o ≤ k * v * o + k * t * p
  up g =
      let l : e * u ≤ o + t * e = omega arith in
      let m = mul-le-mul_left (k * (v - u)) l in
      rw (more, p_is) (grown k u (v - u) o e t m)
    where
      grown : (k u w o e t : ℕ) → k * w * (e * u) ≤ k * w * (o + t * e) → k * u * (o + e * w) + k * t * o ≤ k * (u + w) * o + k * t * (o + e * w)
      grown k u w o e t m = omega arith

  down : t * e ≤ r → k * v * o + k * t * p ≤ k * u * p + k * t * o
  down g =
      let l : o + t * e ≤ e * u = omega arith in
      let m = mul-le-mul_left (k * (v - u)) l in
      rw (more, p_is) (shrunk k u (v - u) o e t m)
    where
      shrunk : (k u w o e t : ℕ) → k * w * (o + t * e) ≤ k * w * (e * u) → k * (u + w) * o + k * t * (o + e * w) ≤ k * u * (o + e * w) + k * t * o
      shrunk k u w o e t m = omega arith

-- what stands below the line is above 0, and nothing is cut off it
pub record Under (x : Design) (u : ℕ) : Type 0 where
  pub is : x.m.e * u ≡ under x u + 10 * (x.m.e - x.m.d) * x.h
  pub positive : 1 ≤ under x u

under-from : (e g h u o : ℕ) → g ≤ e → 1 ≤ e → 10 * h < u → o ≡ e * u - 10 * g * h → (e * u ≡ o + 10 * g * h) × (1 ≤ o)
under-from e g h u o l n b d =
    let p = mul-le-mul_left (10 * h) l in
    let q : e * (10 * h + 1) ≤ e * u = mul-le-mul_left e (omega arith) in
    let r : 10 * g * h + 1 ≤ e * u = omega arith in
    (omega arith, omega arith)

scaled_up : (g h e d : ℕ) → g * h ≤ e * d → 10 * g * h ≤ 10 * d * e
scaled_up g h e d l = omega arith

scaled_down : (g h e d : ℕ) → e * d < g * h → 10 * d * e ≤ 10 * g * h
scaled_down g h e d l = omega arith

-- the stress before it is held
abbrev pub free : Design → Layer → ℕ → Fraction
free x l u = whole (x.m.d * x.m.e) *ᶠ (whole u /ᶠ 10 -ᶠ whole l.depth) ÷ᶠ below_point x u

-- what stands below the line, and the stress that is held: for the parts above
pub below_is : (x : Design) (u : ℕ) → below_point x u ≡ record { p = under x u; q = 10 }
unfolding below_point
below_is x u = refl

pub stress_is : (x : Design) (l : Layer) (u : ℕ) → stress x l u ≡ held (whole 0 -ᶠ whole x.m.s /ᶠ 100) (whole x.m.s /ᶠ 100) (free x l u)
unfolding stress
stress_is x l u = refl

module _ (x : Design) (e_low : 1 ≤ x.m.e) where
  pub under_is : {u : ℕ} → 10 * x.h < u → Under x u
  under_is {u} b =
      let f = under-from x.m.e (x.m.e - x.m.d) x.h u (under x u) (omega arith) e_low b refl in
      record { is = f.0; positive = f.1 }

  below_positive : {u : ℕ} → 10 * x.h < u → Positive (below_point x u)
  unfolding below_point
  below_positive b = record { p_pos = (under_is b).positive; q-pos = omega arith }

  free_proper : (l : Layer) {u : ℕ} → 10 * x.h < u → Proper (free x l u)
  free_proper l b = let p = below_positive b in search proper

  pub layer_proper : (l : Layer) {u : ℕ} → 10 * x.h < u → Proper (layer_force x l u)
  unfolding layer_force stress
  layer_proper l b = let p = free_proper l b in search (proper, held_proper) depth 8

  module _ (l : Layer) {s t : ℕ} (bs : 10 * x.h < s) (bt : 10 * x.h < t) where
    -- holding and rounding down keep an order of the stresses
    held_order : free x l s ≤ᶠ free x l t → floor (layer_force x l s) ≤ℤ floor (layer_force x l t)
    held_order f =
        floor_mono (layer_proper l bs) (layer_proper l bt)
        (unfold layer_force stress in whole_mono _ (held_mono (free_proper l bs) (free_proper l bt) (bounds x.m.s 100) f))

  module _ (l : Layer) {u v : ℕ} (b : 10 * x.h < u) (h : u ≤ v) where
    abbrev under-v : Under x v
    under-v = under_is (omega arith)

    free_up : 10 * (x.m.e - x.m.d) * x.h ≤ 10 * l.depth * x.m.e → free x l u ≤ᶠ free x l v
    unfolding below_point whole ◌*ᶠ◌ ◌-ᶠ◌ ◌/ᶠ◌ ◌÷ᶠ◌
    free_up g =
        let m = up (x.m.d * x.m.e) u v (under x u) (under x v) x.m.e (10 * l.depth) (10 * (x.m.e - x.m.d) * x.h)
        (under_is b).is under-v.is h g in
        record { le = simp tidy (omega (arith, m)) }

    free_down : 10 * l.depth * x.m.e ≤ 10 * (x.m.e - x.m.d) * x.h → free x l v ≤ᶠ free x l u
    unfolding below_point whole ◌*ᶠ◌ ◌-ᶠ◌ ◌/ᶠ◌ ◌÷ᶠ◌
    free_down g =
        let m = down (x.m.d * x.m.e) u v (under x u) (under x v) x.m.e (10 * l.depth) (10 * (x.m.e - x.m.d) * x.h)
        (under_is b).is under-v.is h g in
        record { le = simp tidy (omega (arith, m)) }

    -- a layer with d ≥ (1 − D/E)·h never falls,
    layer-rises : rises x l.depth ≡ true → floor (layer_force x l u) ≤ℤ floor (layer_force x l v)
    layer-rises e = held_order l b (omega arith) (free_up (scaled_up (x.m.e - x.m.d) x.h x.m.e l.depth (leb-true _ _ e)))

    -- each other never rises
    layer_falls : rises x l.depth ≡ false → floor (layer_force x l v) ≤ℤ floor (layer_force x l u)
    layer_falls e = held_order l (omega arith) b (free_down (scaled_down (x.m.e - x.m.d) x.h x.m.e l.depth (leb-false _ _ e)))

  -- ---- on an interval

  layer-most : (l : Layer) {a u b : ℕ} → 10 * x.h < a → a ≤ u → u ≤ b
      → floor (layer_force x l u) ≤ℤ floor (layer_force x l (most x l.depth a b))
  layer-most l {a} {u} {b} z h k = go (rises x l.depth) refl
    where
      go : (t : Bool) → rises x l.depth ≡ t → floor (layer_force x l u) ≤ℤ floor (layer_force x l (cond t b a))
      go true e = layer-rises l (omega arith) k e
      go false e = layer_falls l z h e

  module _ {a u b : ℕ} (z : 10 * x.h < a) (h : a ≤ u) (k : u ≤ b) where
    steel-most : (ls : List Layer) → steel_force x ls u ≤ℤ steel_bound x ls a b
    unfolding steel_force steel_bound
    steel-most [] = ≤ℤ_refl (pos 0)
    steel-most (l ∷ ls) = add_order (layer-most l z h k) (steel-most ls)

    -- no internal force on a..b exceeds the bound
    pub interval : (ls : List Layer) → internal_force x ls u ≤ℤ bound x ls a b
    unfolding internal_force bound
    interval ls = add_order (concrete-rises x k) (steel-most ls)

-- of one depth the bound is the force
either_way : (t : Bool) (u : ℕ) → cond t u u ≡ u
either_way true u = refl
either_way false u = refl

steel-one : (x : Design) (u : ℕ) (ls : List Layer) → steel_bound x ls u u ≡ steel_force x ls u
unfolding steel_force steel_bound
steel-one x u [] = refl
steel-one x u (l ∷ ls) = rw (either_way (rises x l.depth) u, steel-one x u ls)

pub one_depth : (x : Design) (ls : List Layer) (u : ℕ) → bound x ls u u ≡ internal_force x ls u
unfolding internal_force bound
one_depth x ls u = rw (steel-one x u ls)
