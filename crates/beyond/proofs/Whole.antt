-- Beyond 10h a layer's force is p/q newtons, of two naturals: force and moment are then quotients of whole numbers. Assumes nothing.
use Prim.Native.Nat.{ℕ, ◌+◌, ◌-◌, ◌*◌, ◌≤◌, ◌<◌}
use mathlib.Core.Bool.{Bool, true, false, cond}
use mathlib.Core.List.{List, [], ◌∷◌}
use mathlib.Core.Path.{◌≡◌, refl, sym, ap, ◌∙◌}
use native.Mathlib.Nat.{mul-pos}
use native.Mathlib.Omega.{arith}
use borrow.Author.Tests.{leb-true, le-leb, lt-leb}
use lib.IntN.{pos, ◌+ℤ◌}
use Rattle.arith.specs.Fraction.{Fraction, Proper, whole, ◌-ᶠ◌, ◌*ᶠ◌, ◌/ᶠ◌, ◌÷ᶠ◌, ◌≤ᶠ◌, ◌<ᶠ◌, Same, at_most, held, floor}
use Rattle.arith.specs.Floor.{floor_div}
use Rattle.arith.proofs.Fraction.{tidy, proper, tested, passes, holds-true, fails_false}
use Rattle.arith.proofs.Quotient.{same_trans, same_mul, per, per_proper, by_value, floor_same}
use Rattle.arith.proofs.Ring.{E, #, ◌⊝◌, ◌⊗◌, val}
use Rattle.arith.proofs.Test.{same_test}
use Rattle.section.specs.declared.Layer.{Layer}
use Rattle.section.specs.declared.Design.{Design}
use Rattle.section.specs.Code.Usable.{Bounded, LayerOk}
use Rattle.beyond.specs.Force.{block_depth, concrete_force, concrete_moment, below_point, stress, layer_force, layer_moment}
use Rattle.beyond.specs.Force.{steel_resistance, moment_resistance}
use Rattle.beyond.specs.Code.Range.{Beyond}
use Rattle.beyond.specs.Code.Whole.{block, concrete_newtons, block_moment, under, rise, yields, held_share, free_share, share_of, layer_newtons}
use Rattle.beyond.proofs.Moves.{Under, under_is, free, layer_proper, concrete_proper}

-- ---- the concrete

pub concrete-whole : (x : Design) (u : ℕ) → pos (concrete_newtons x u) ≡ floor (concrete_force x u)
unfolding concrete_newtons
concrete-whole x u =
    sym (floor_same {m = 80000} (pos (x.m.f * x.b * block x u)) (concrete_proper x u) (omega arith)
    (unfold concrete_force block_depth whole ◌*ᶠ◌ ◌/ᶠ◌ in record { same = simp tidy (omega arith) })
    ∙ (unfold floor_div in refl))

module _ (x : Design) (u : ℕ) where
  -- what the block leaves of h
  leaves : 800 * x.h ≡ block x u + (800 * x.h - block x u)
  leaves = omega arith

  moment_same_concrete : Same (concrete_moment x u) (per 128000000 (pos (x.m.f * x.b * (block x u * (800 * x.h - block x u)))))
  unfolding concrete_moment concrete_force block_depth whole ◌*ᶠ◌ ◌-ᶠ◌ ◌/ᶠ◌
  moment_same_concrete = same (x.m.f * x.b) (block x u) (800 * x.h - block x u) x.h leaves
    where
      same : (a k r h : ℕ) → 800 * h ≡ k + r
          → Same (whole a *ᶠ (whole k /ᶠ 800) /ᶠ 100 *ᶠ (whole h -ᶠ whole k /ᶠ 800) /ᶠ 2) (per 128000000 (pos (a * (k * r))))
      same a k r h e = let m = ap (λ (t : ℕ). a * k * t) e in record { same = simp tidy (omega (arith, m)) }

  concrete-moment_proper : Proper (concrete_moment x u)
  unfolding concrete_moment block_depth
  concrete-moment_proper = let p = concrete_proper x u in search proper

  pub concrete-moment-whole : floor (concrete_moment x u) ≡ pos (block_moment x.m.f x.b x.h (block x u))
  unfolding floor_div
  concrete-moment-whole =
      floor_same (pos (x.m.f * x.b * (block x u * (800 * x.h - block x u)))) concrete-moment_proper (omega arith) moment_same_concrete

-- ---- a layer

-- what either arm of the test gives, of p above and q below the line
module _ (x : Design) (l : Layer) (u : ℕ) {p q : ℕ} (p_is : p ≡ rise x l.depth u) (q_is : q ≡ under x u) where
  pub held_arm : x.m.s * q ≤ 100 * p → held_share x l ≡ share_of x l u
  unfolding share_of
  held_arm h =
      let t : yields x l.depth u ≡ true = le-leb _ _ (rw (p_is, q_is) at h) in
      rw t

  pub free_arm : 100 * p < x.m.s * q → record { p = l.area * p; q = q } ≡ share_of x l u
  unfolding share_of
  free_arm h =
      let t : yields x l.depth u ≡ false = lt-leb _ _ (rw (p_is, q_is) at h) in
      rw (t, p_is, q_is)

module _ (x : Design) (l : Layer) {u : ℕ} (bd : Bounded x) (by-u : Beyond x u) (ok : LayerOk x.h l) where
  e_low : 1 ≤ x.m.e
  e_low = omega (arith, bd.materials.E-low)

  below-line : Under x u
  below-line = under_is x e_low by-u.low

  -- u = 10d + (u − 10d)
  more : u ≡ 10 * l.depth + (u - 10 * l.depth)
  more = omega (arith, by-u.low, ok.depth_high)

  rise_is : x.m.d * x.m.e * u ≡ x.m.d * x.m.e * (10 * l.depth) + rise x l.depth u
  rise_is = omega (arith, ap (λ (n : ℕ). x.m.d * x.m.e * n) more)

  rise-low : 1 ≤ rise x l.depth u
  rise-low = mul-pos (mul-pos bd.materials.D-low e_low) (omega (arith, by-u.low, ok.depth_high))

  abbrev low : Fraction
  low = whole 0 -ᶠ whole x.m.s /ᶠ 100

  abbrev high : Fraction
  high = whole x.m.s /ᶠ 100

  -- the stress is above 0, so the lower bound never holds it
  positive : low <ᶠ free x l u
  unfolding below_point whole ◌*ᶠ◌ ◌-ᶠ◌ ◌/ᶠ◌ ◌÷ᶠ◌
  positive = record { lt = simp tidy (omega (arith, rise_is, rise-low)) }

  to_test : high ≤ᶠ free x l u → x.m.s * under x u ≤ 100 * rise x l.depth u
  unfolding below_point whole ◌*ᶠ◌ ◌-ᶠ◌ ◌/ᶠ◌ ◌÷ᶠ◌
  to_test h = omega (arith, rise_is, simp tidy at h.le)

  of_test : x.m.s * under x u ≤ 100 * rise x l.depth u → high ≤ᶠ free x l u
  unfolding below_point whole ◌*ᶠ◌ ◌-ᶠ◌ ◌/ᶠ◌ ◌÷ᶠ◌
  of_test h = record { le = simp tidy (omega (arith, rise_is)) }

  high_is : at_most high (free x l u) ≡ yields x l.depth u
  high_is =
      same_test (at_most high (free x l u)) (yields x l.depth u)
      (λ e. le-leb _ _ (to_test (passes (tested high (free x l u)) e)))
      (λ e. holds-true (tested high (free x l u)) (of_test (leb-true _ _ e)))

  by_test : (t : Bool) → Same (whole l.area *ᶠ cond t high (free x l u))
      (per (cond t (held_share x l) (free_share x l u)).q (pos (cond t (held_share x l) (free_share x l u)).p))
  unfolding below_point whole ◌*ᶠ◌ ◌-ᶠ◌ ◌/ᶠ◌ ◌÷ᶠ◌
  by_test true = record { same = simp tidy (omega arith) }
  by_test false =
      let k = ap (λ (n : ℕ). l.area * under x u * n) rise_is in
      record { same = simp tidy (omega (arith, k)) }

  share_same : Same (layer_force x l u) (per (share_of x l u).q (pos (share_of x l u).p))
  unfolding layer_force stress held share_of
  share_same = rw (fails_false (tested (free x l u) low) positive, high_is) (by_test (yields x l.depth u))

  q-from : (t : Bool) → 1 ≤ (cond t (held_share x l) (free_share x l u)).q
  q-from true = omega arith
  q-from false = below-line.positive

  pub share-low : 1 ≤ (share_of x l u).q
  unfolding share_of
  share-low = q-from (yields x l.depth u)

  pub layer-whole : pos (layer_newtons x l u) ≡ floor (layer_force x l u)
  unfolding layer_newtons
  layer-whole = sym (floor_same (pos (share_of x l u).p) (layer_proper x e_low l by-u.low) share-low share_same ∙ (unfold floor_div in refl))

  -- p·(h − 2d), over 2q, is the moment
  abbrev moment : E
  moment = # (pos (share_of x l u).p) ⊗ (# (pos x.h) ⊝ # (pos (2 * l.depth)))

  moment_same : Same (layer_moment x l u) (per (2 * (share_of x l u).q) (val moment))
  unfolding layer_moment
  moment_same =
      let c : Fraction = whole x.h /ᶠ 2 -ᶠ whole l.depth in
      let s : Fraction = per (share_of x l u).q (pos (share_of x l u).p) in
      let ps = per_proper {m = (share_of x l u).q} (pos (share_of x l u).p) share-low in
      by_value moment (omega (arith, share-low))
      (same_trans {b = s *ᶠ c} (search proper) (same_mul c share_same)
      (unfold whole ◌*ᶠ◌ ◌-ᶠ◌ ◌/ᶠ◌ in record { same = simp tidy (omega arith) }))

  moment_proper : Proper (layer_moment x l u)
  unfolding layer_moment
  moment_proper = let p = layer_proper x e_low l by-u.low in search proper

  pub moment-whole : floor (layer_moment x l u) ≡ floor_div (val moment) (pos (2 * (share_of x l u).q))
  moment-whole = floor_same (val moment) moment_proper (omega (arith, share-low)) moment_same

-- ---- the moment of the section, part by part: for the parts above

module _ (x : Design) (u : ℕ) where
  pub steel_none : steel_resistance x [] u ≡ pos 0
  unfolding steel_resistance
  steel_none = refl

  pub steel_next : (l : Layer) (ls : List Layer) → steel_resistance x (l ∷ ls) u ≡ floor (layer_moment x l u) +ℤ steel_resistance x ls u
  unfolding steel_resistance
  steel_next l ls = refl

  pub resistance_is : (ls : List Layer) → moment_resistance x ls u ≡ floor (concrete_moment x u) +ℤ steel_resistance x ls u
  unfolding moment_resistance
  resistance_is ls = refl
