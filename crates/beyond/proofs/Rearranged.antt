-- Beyond 10h the sequence of the layers makes no difference to the depth or the moment. Assumes nothing.
use Prim.Native.Nat.{ℕ, ◌+◌, ◌*◌}
use mathlib.Core.Bool.{Bool}
use mathlib.Core.List.{List}
use mathlib.Core.Path.{◌≡◌, refl, ap, fun_ext}
use lib.IntN.{ℤ, ◌+ℤ◌}
use lib.Signed.{le_z}
use Rattle.arith.specs.Fraction.{floor}
use Rattle.arith.specs.Greatest.{least}
use Rattle.arith.specs.Rearranged.{Rearranged}
use Rattle.arith.proofs.Rearranged.{sum_same, integers}
use Rattle.section.specs.declared.Layer.{Layer}
use Rattle.section.specs.declared.Design.{Design}
use Rattle.beyond.specs.Force.{concrete_force, layer_force, steel_force, internal_force}
use Rattle.beyond.specs.Force.{concrete_moment, layer_moment, steel_resistance, moment_resistance}
use Rattle.beyond.specs.Depth.{least_reaching}

module _ (x : Design) {xs ys : List Layer} (same : Rearranged xs ys) where
  force_same : (u : ℕ) → internal_force x xs u ≡ internal_force x ys u
  unfolding steel_force internal_force
  force_same u =
      ap (λ (z : ℤ). floor (concrete_force x u) +ℤ z)
      (sum_same integers (λ l. floor (layer_force x l u)) (λ ls. steel_force x ls u) (λ l ls. refl) same)

  pub least_same : (N : ℤ) → least_reaching x xs N ≡ least_reaching x ys N
  unfolding least_reaching
  least_same N = ap (λ (p : ℕ → Bool). least p (10 * x.h + 1) (20 * x.h)) (fun_ext (λ u. ap (le_z N) (force_same u)))

  pub resistance_same : (u : ℕ) → moment_resistance x xs u ≡ moment_resistance x ys u
  unfolding steel_resistance moment_resistance
  resistance_same u =
      ap (λ (z : ℤ). floor (concrete_moment x u) +ℤ z)
      (sum_same integers (λ l. floor (layer_moment x l u)) (λ ls. steel_resistance x ls u) (λ l ls. refl) same)
