-- What a trial says: the sign of the excess at a depth, and at 10h. Assumes nothing.
use Prim.Native.Nat.{ℕ, ◌*◌, ◌≤◌, ◌<◌}
use mathlib.Core.Bool.{Bool, true, false}
use mathlib.Core.List.{List}
use mathlib.Core.Path.{◌≡◌, refl, sym, ◌∙◌}
use native.Mathlib.Omega.{arith}
use lib.IntN.{ℤ, pos}
use lib.Signed.{le_z, lt_z}
use Rattle.arith.specs.Greatest.{greatest}
use Rattle.arith.proofs.Greatest.{le-greatest}
use Rattle.arith.proofs.Ring.{#, le!, lt?}
use Rattle.arith.proofs.Test.{lt-true, lt-false, le-false, true-le, false-le}
use Rattle.section.specs.declared.Layer.{Layer}
use Rattle.section.specs.declared.Design.{Design}
use Rattle.equilibrium.specs.Refusals.{carries, up_to_10h}
use Rattle.equilibrium.specs.Code.Whole.{excess}
use Rattle.equilibrium.proofs.Whole.{carries_is, up_to_is}

-- ---- at a depth

module _ (x : Design) (ls : List Layer) (N : ℤ) {u : ℕ} (low : 1 ≤ u) where
  pub fails_at : {z : ℤ} → z ≡ excess x ls N u → lt_z (pos 0) z ≡ true → carries x ls N u ≡ false
  fails_at {z} e h = carries_is x ls N low ∙ rw e at (false-le z (pos 0) (lt-true _ _ h))

  pub passes_at : {z : ℤ} → z ≡ excess x ls N u → lt_z (pos 0) z ≡ false → carries x ls N u ≡ true
  passes_at {z} e h = carries_is x ls N low ∙ rw e at (true-le z (pos 0) (lt-false _ _ h))

-- ---- at 10h

module _ (x : Design) (ls : List Layer) (N : ℤ) (low : 1 ≤ x.h) {z : ℤ} (e : z ≡ excess x ls N (10 * x.h)) where
  pub top_short : lt_z z (pos 0) ≡ true → up_to_10h x ls N ≡ false
  top_short h = up_to_is x ls N low ∙ rw e at (false-le (pos 0) z (lt-true _ _ h))

  pub top_reached : lt_z z (pos 0) ≡ false → up_to_10h x ls N ≡ true
  top_reached h = up_to_is x ls N low ∙ rw e at (true-le (pos 0) z (lt-false _ _ h))

-- where a search ends below 10h, N is not carried there, and so it is at most the force there
not_carried : (p : ℕ → Bool) (m : ℕ) (t : Bool) → p m ≡ t → greatest p m < m → t ≡ false
not_carried p m true e h = absurd (omega (arith, le-greatest p m m (omega arith) e))
not_carried p m false e h = refl

pub below_top : (x : Design) (ls : List Layer) (N : ℤ) → 1 ≤ x.h → greatest (carries x ls N) (10 * x.h) < 10 * x.h → up_to_10h x ls N ≡ true
below_top x ls N low h =
    let z = excess x ls N (10 * x.h) in
    let f : le_z z (pos 0) ≡ false = sym (carries_is x ls N (omega arith)) ∙ not_carried (carries x ls N) (10 * x.h) _ refl h in
    up_to_is x ls N low ∙ true-le (pos 0) z (le! (# (pos 0)) (# z) (omega (arith, lt? (# (pos 0)) (# z) (le-false z (pos 0) f))))
