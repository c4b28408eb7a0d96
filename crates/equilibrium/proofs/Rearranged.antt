-- The sequence of the layers makes no difference to Find a depth and Moment at a depth: document 02, ticket 2. Assumes nothing.
use Prim.Native.Nat.{ℕ, ◌*◌}
use mathlib.Core.Bool.{Bool, ◌&&◌}
use mathlib.Core.List.{List, [], ◌∷◌}
use mathlib.Core.Path.{◌≡◌, refl, ap, fun_ext}
use lib.Dec.{leb}
use lib.IntN.{ℤ, nat_abs, ◌+ℤ◌}
use Rattle.std.specs.Prelude.{Option, Result, Ok, Err}
use Rattle.refusals.specs.declared.Refusal.{Refusal}
use Rattle.refusals.specs.declared.Refusal.TheVariants.{AxialForce, DepthRange}
use Rattle.refusals.specs.Chain.{test}
use Rattle.arith.specs.Fraction.{Fraction, Ratio, ◌+ᶠ◌, integer, at_most, floor}
use Rattle.arith.specs.Halving.{halved}
use Rattle.arith.specs.Rearranged.{Rearranged}
use Rattle.arith.proofs.Rearranged.{sum_same, integers, fractions}
use Rattle.section.specs.declared.Layer.{Layer}
use Rattle.section.specs.declared.Design.{Design}
use Rattle.section.specs.Section.{Counted}
use Rattle.section.specs.Load.{force_ok}
use Rattle.section.specs.Rearranged.{SameBars}
use Rattle.section.proofs.Rearranged.{call_same}
use Rattle.beyond.proofs.Rearranged as beyond
use Rattle.equilibrium.specs.Force.{at, concrete_force, layer_force, steel_force, internal_force}
use Rattle.equilibrium.specs.Force.{concrete_moment, layer_moment, steel_resistance, moment_resistance}
use Rattle.equilibrium.specs.Refusals.{carries, up_to_10h, reaches, face_tests_of}
use Rattle.equilibrium.specs.Depth.{trials_under, face_depth, depth_of, depth_in}
use Rattle.equilibrium.specs.Moment.{resistance_at, moment_in}

-- ---- of a face

module _ (x : Design) {xs ys : List Layer} (same : Rearranged xs ys) where
  force_same : (u : Ratio) → internal_force x xs u ≡ internal_force x ys u
  unfolding steel_force internal_force
  force_same u =
      ap (λ (f : Fraction). concrete_force x u +ᶠ f) (sum_same fractions (λ l. layer_force x l u) (λ ls. steel_force x ls u) (λ l ls. refl) same)

  up_to_same : (u : ℕ) → moment_resistance x xs u ≡ moment_resistance x ys u
  unfolding steel_resistance moment_resistance
  up_to_same u =
      ap (λ (z : ℤ). floor (concrete_moment x (at u)) +ℤ z)
      (sum_same integers (λ l. floor (layer_moment x l (at u))) (λ ls. steel_resistance x ls u) (λ l ls. refl) same)

  pub resistance_same : (u : ℕ) → resistance_at x xs u ≡ resistance_at x ys u
  unfolding resistance_at
  resistance_same u = rw (up_to_same u, beyond.resistance_same x same u)

  module _ (N : ℤ) where
    pub carries_same : carries x xs N ≡ carries x ys N
    unfolding carries
    carries_same = fun_ext (λ u. ap (λ (f : Fraction). at_most f (integer N)) (force_same (at u)))

    at_10h_same : up_to_10h x xs N ≡ up_to_10h x ys N
    unfolding up_to_10h
    at_10h_same = ap (at_most (integer N)) (force_same (at (10 * x.h)))

    pub reaches_same : reaches x xs N ≡ reaches x ys N
    reaches_same = rw (at_10h_same, beyond.least_same x same N)

    pub face_same : face_depth xs N x ≡ face_depth ys N x
    face_same = rw (at_10h_same, carries_same, beyond.least_same x same N)

    trials_same : trials_under xs N x ≡ trials_under ys N x
    trials_same = ap (λ (p : ℕ → Bool). (halved p (10 * x.h)).trials) carries_same

    depth_same : depth_of xs N x ≡ depth_of ys N x
    depth_same = rw (at_10h_same, carries_same, trials_same, beyond.least_same x same N)

-- ---- the calls

module _ {c d : Counted} (same : SameBars c d) where
  module _ (N : ℤ) where
    abbrev asks : Counted → Result Design Refusal → List (Option Refusal)
    asks e a = test AxialForce (force_ok N) ∷ face_tests_of a e.layers N

    asks_same : (a : Result Design Refusal) → asks c a ≡ asks d a
    asks_same (Ok x) = rw (carries_same x same.layers N, reaches_same x same.layers N)
    asks_same (Err r) = refl

    pub find_same : depth_in c N ≡ depth_in d N
    unfolding depth_in
    find_same = call_same same (λ e. depth_of e.layers N) asks (λ x. depth_same x same.layers N) asks_same

  module _ (u : ℕ) where
    pub moment_same : moment_in c u ≡ moment_in d u
    unfolding moment_in
    moment_same =
        call_same same (λ e x. resistance_at x e.layers u)
        (λ e a. test DepthRange (leb 1 u && leb u (30 * nat_abs e.height)) ∷ [])
        (λ x. resistance_same x same.layers u) (λ a. rw same.height)
