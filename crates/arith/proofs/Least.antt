-- The least number that passes a test: numbers that fail are passed over, and what it says. Assumes nothing.
use Prim.Native.Nat.{ℕ, zero, suc, ◌+◌, ◌≤◌, ◌<◌}
use mathlib.Core.Bool.{Bool, true, false}
use mathlib.Core.Logic.{⊎_elim}
use mathlib.Core.Path.{◌≡◌, refl, subst}
use native.Mathlib.Nat.{eq-or-lt_of_le}
use native.Mathlib.Omega.{arith}
use Rattle.arith.specs.Greatest.{least, IsLeast}
use Rattle.arith.proofs.Test.{by_cond}

module _ (p : ℕ → Bool) where
  -- j numbers that fail, from a up to c, are passed over
  pub skip : (j a c n k : ℕ) → c ≡ a + j → n ≡ j + k → ((i : ℕ) → a ≤ i → i < c → p i ≡ false) → least p a n ≡ least p c k
  unfolding least
  skip zero a c n k e f fails =
      let c-is : c ≡ a = omega arith in
      let n-is : n ≡ k = omega arith in
      rw (c-is, n-is)
  skip (suc j) a c n k e f fails =
      let n-is : n ≡ suc (j + k) = omega arith in
      rw (n-is, fails a (omega arith) (omega arith)) (skip j (suc a) c (j + k) k (omega arith) refl (λ i h. fails i (omega arith)))

  -- the first of them passes
  pub least_first : (a n m : ℕ) → n ≡ suc m → p a ≡ true → least p a n ≡ a
  unfolding least
  least_first a n m e t = rw (e, t)

  -- there are none
  pub least_none : (a n : ℕ) → n ≡ 0 → least p a n ≡ 0
  unfolding least
  least_none a n e = rw e

  -- ---- what it says

  -- what holds of a and of all after it
  from_next : (a m : ℕ) → p a ≡ false → ((k : ℕ) → suc a ≤ k → k < m → p k ≡ false) → (k : ℕ) → a ≤ k → k < m → p k ≡ false
  from_next a m e rest k h l = ⊎_elim (λ q. subst (λ (j : ℕ). p j ≡ false) q e) (λ g. rest k g l) (eq-or-lt_of_le h)

  -- of numbers from 1 on: where it is a number, that passes and none before it does,
  pub least_is : (n a : ℕ) → 1 ≤ a → 1 ≤ least p a n → IsLeast p a n (least p a n)
  unfolding least
  least_is zero a low some = absurd (omega arith)
  least_is (suc n) a low some =
      by_cond (λ (x : ℕ). 1 ≤ x → IsLeast p a (suc n) x) (p a)
      (λ t s. record { from = omega arith; to = omega arith; passes = t; before = λ k h l. absurd (omega arith) })
      (λ f s. let w = least_is n (suc a) (omega arith) s in
      record { from = omega (arith, w.from); to = omega (arith, w.to); passes = w.passes; before = from_next a _ f w.before })
      some

  -- and where it is 0, none does
  pub least_fails : (n a : ℕ) → 1 ≤ a → least p a n ≡ 0 → (k : ℕ) → a ≤ k → k < a + n → p k ≡ false
  unfolding least
  least_fails zero a low none = λ k h l. absurd (omega arith)
  least_fails (suc n) a low none =
      by_cond (λ (x : ℕ). x ≡ 0 → (k : ℕ) → a ≤ k → k < a + suc n → p k ≡ false) (p a)
      (λ t z. absurd (omega arith))
      (λ f z. from_next a (a + suc n) f (λ k h l. least_fails n (suc a) (omega arith) z k h (omega arith)))
      none
