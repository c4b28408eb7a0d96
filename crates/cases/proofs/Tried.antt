-- The search by intervals as a test that antt computes: some hundred trials where the definition takes thousands. Assumes nothing.
use Prim.Native.Nat.{ℕ, zero, suc, min, ◌+◌, ◌-◌, ◌*◌, ◌/◌, ◌≤◌}
use mathlib.Core.Bool.{Bool, true, false, cond}
use mathlib.Core.List.{List}
use mathlib.Core.Path.{◌≡◌, refl, sym, ◌∙◌}
use lib.Dec.{eqb, leb}
use lib.IntN.{ℤ}
use lib.Signed.{lt_z}
use borrow.Author.Tests.{leb-true, leb-false, eqb-true}
use Rattle.arith.proofs.Test.{by_cond, clash}
use Rattle.section.specs.declared.Layer.{Layer}
use Rattle.section.specs.declared.Design.{Design}
use Rattle.beyond.specs.Depth.{least_reaching}
use Rattle.beyond.specs.Code.Bound.{bound}
use Rattle.beyond.proofs.Intervals.{Left, begin, skipped, narrowed, found, never}

-- a number that is worked out before it is used: so antt computes it once, and not wherever it stands
module _ {A : Type 0} where
  abbrev worked : ℕ → (ℕ → A) → A
  worked zero f = f zero
  worked (suc n) f = f (suc n)

  by_worked : (Q : A → Type 0) (n : ℕ) (f : ℕ → A) → Q (f n) → Q (worked n f)
  by_worked Q zero f h = h
  by_worked Q (suc n) f h = h

module _ (x : Design) (ls : List Layer) (N : ℤ) where
  -- after at most n trials from a..b on, u is the answer, 0 for none
  unfoldable pub answers_by : ℕ → ℕ → ℕ → ℕ → Bool
  answers_by zero a b u = false
  answers_by (suc n) a b u =
      worked a (λ a. worked b (λ b.
      cond (leb a (30 * x.h))
      (cond (lt_z (bound x ls a b) N) (answers_by n (b + 1) (min (b + 1 + 2 * (b - a) + 1) (30 * x.h)) u)
      (cond (eqb a b) (eqb u a) (answers_by n a (a + (b - a) / 4) u)))
      (eqb u 0)))

  module _ (e_low : 1 ≤ x.m.e) (u : ℕ) where
    -- what a test says of the answer
    abbrev Says : Bool → Type 0
    Says t = t ≡ true → least_reaching x ls N ≡ u

    answers : (n : ℕ) {a b : ℕ} → Left x ls N a b → Says (answers_by n a b u)
    unfolding answers_by
    answers zero w = λ e. absurd (clash e refl)
    answers (suc n) {a} {b} w =
        by_worked Says a _ (by_worked Says b _ (
        by_cond Says (leb a (30 * x.h))
        (λ t.
        let k = leb-true a (30 * x.h) t in
        by_cond Says (lt_z (bound x ls a b) N)
        (λ short. answers n (skipped x ls N e_low w k short refl))
        (λ reached. by_cond Says (eqb a b)
        (λ one e. sym (found x ls N w k (eqb-true a b one) reached) ∙ sym (eqb-true u a e))
        (λ more. answers n (narrowed x ls N w (w.order k)))))
        (λ f e. sym (never x ls N w (leb-false a (30 * x.h) f)) ∙ sym (eqb-true u 0 e))))

    -- all of the range
    pub answered : (n : ℕ) → 1 ≤ x.h → Says (answers_by n (10 * x.h + 1) (30 * x.h) u)
    answered n h = answers n (begin x ls N h)
