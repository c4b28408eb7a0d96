-- The internal force rises with the depth, strictly, over all fractions above 0. Assumes nothing.
use Prim.Native.Nat.{ℕ, ◌*◌, ◌≤◌}
use mathlib.Core.List.{List, [], ◌∷◌}
use mathlib.Core.Path.{◌≡◌, refl}
use native.Mathlib.Nat.{mul-le-mul_left}
use native.Mathlib.Omega.{arith}
use Rattle.arith.specs.Fraction.{Fraction, Proper, Ratio, whole, ratio, ◌-ᶠ◌, ◌*ᶠ◌, ◌÷ᶠ◌, ◌≤ᶠ◌, ◌<ᶠ◌}
use Rattle.arith.proofs.Fraction.{tidy, Positive, proper, +ᶠ-proper, ≤ᶠ-refl, <ᶠ→≤ᶠ, +ᶠ-mono, +ᶠ-strict, whole_mono, whole_strict, bounds}
use Rattle.arith.proofs.Fraction.{/ᶠ-mono, /ᶠ-strict, held_proper, held_mono}
use Rattle.section.specs.declared.Layer.{Layer}
use Rattle.section.specs.declared.Design.{Design}
use Rattle.equilibrium.specs.Force.{at, concrete_force, stress, layer_force, steel_force, internal_force}

-- a whole depth: above 0 from 1 on, and as a fraction the whole number
pub at_positive : (u : ℕ) → 1 ≤ u → Positive (at u)
unfolding at
at_positive u h = omega arith

pub at-whole : (u : ℕ) → ratio (at u) ≡ whole u
unfolding at ratio whole
at-whole u = refl

-- the stress before it is held
free : ℕ → ℕ → Ratio → Fraction
free E d u = whole E *ᶠ (ratio u -ᶠ whole (10 * d)) ÷ᶠ u

free_proper : (E d : ℕ) {u : Ratio} → Positive u → Proper (free E d u)
unfolding free
free_proper E d pu = search proper

free_mono : (E d : ℕ) (u v : Ratio) → ratio u ≤ᶠ ratio v → free E d u ≤ᶠ free E d v
unfolding free ◌*ᶠ◌ ◌-ᶠ◌ ◌÷ᶠ◌ whole ratio
free_mono E d u v h = record { le = simp tidy (omega (arith, mul-le-mul_left (10 * d * E * u.q * v.q) h.le)) }

module _ (x : Design) {u : Ratio} (pu : Positive u) where
  pub concrete_proper : Proper (concrete_force x u)
  unfolding concrete_force
  concrete_proper = search proper

  pub layer_proper : (l : Layer) → Proper (layer_force x l u)
  unfolding layer_force stress
  layer_proper l = search (proper, held_proper) depth 8

  pub steel_proper : (ls : List Layer) → Proper (steel_force x ls u)
  unfolding steel_force
  steel_proper [] = search proper
  steel_proper (l ∷ ls) = +ᶠ-proper (layer_proper l) (steel_proper ls)

  pub force_proper : (ls : List Layer) → Proper (internal_force x ls u)
  unfolding internal_force
  force_proper ls = +ᶠ-proper concrete_proper (steel_proper ls)

module _ (x : Design) {u v : Ratio} (pu : Positive u) (pv : Positive v) where
  pub layer_mono : (l : Layer) → ratio u ≤ᶠ ratio v → layer_force x l u ≤ᶠ layer_force x l v
  unfolding layer_force stress free
  layer_mono l h =
      whole_mono _ (
      held_mono (free_proper x.m.e l.depth pu) (free_proper x.m.e l.depth pv) (bounds x.m.s 100) (free_mono x.m.e l.depth u v h))

  pub steel_mono : (ls : List Layer) → ratio u ≤ᶠ ratio v → steel_force x ls u ≤ᶠ steel_force x ls v
  unfolding steel_force
  steel_mono [] h = ≤ᶠ-refl _
  steel_mono (l ∷ ls) h = +ᶠ-mono (layer_mono l h) (steel_mono ls h)

  pub force_mono : (ls : List Layer) → ratio u ≤ᶠ ratio v → internal_force x ls u ≤ᶠ internal_force x ls v
  unfolding internal_force concrete_force
  force_mono ls h = +ᶠ-mono (/ᶠ-mono 80000 (whole_mono _ h)) (steel_mono ls h)

  pub force_strict : (ls : List Layer) → 1 ≤ x.m.f * x.m.l * x.b → ratio u <ᶠ ratio v → internal_force x ls u <ᶠ internal_force x ls v
  unfolding internal_force concrete_force
  force_strict ls c h =
      +ᶠ-strict (steel_proper x pu ls) (steel_proper x pv ls) (/ᶠ-strict (omega arith) (whole_strict c h)) (steel_mono ls (<ᶠ→≤ᶠ h))
