-- Sequences of tests: where the first that fails stands, what it says that none does, and the refusals that there are.
-- Assumes nothing.
use mathlib.Core.Bool.{Bool, true, false, cond}
use mathlib.Core.List.{List, [], ◌∷◌, ◌++◌}
use mathlib.Core.Path.{◌≡◌, refl, sym}
use Prim.Native.Nat.{ℕ}
use lib.Dec.{T, eqb}
use borrow.Author.Tests.{eqb-true}
use Rattle.std.specs.Prelude.{Option, None, Some, IfSome}
use Rattle.std.specs.Option.{option_or}
use Rattle.std.proofs.lemmas.Option.{none-some}
use Rattle.arith.specs.Every.{every}
use Rattle.refusals.specs.declared.Refusal.{Refusal}
use Rattle.refusals.specs.Number.{number_of}
use Rattle.arith.proofs.Test.{and_yes}
use Rattle.refusals.specs.Chain.{test, first_failing, is_number_of, OneOf}

-- two sequences, one after the other
pub first_of : (ks js : List (Option Refusal)) → first_failing (ks ++ js) ≡ option_or (first_failing ks) (first_failing js)
first_of [] js = refl
first_of (None ∷ ks) js = first_of ks js
first_of (Some r ∷ ks) js = refl

-- where there is neither of two, there is none of either
pub both_none : (k j : Option Refusal) → option_or k j ≡ None → (k ≡ None) × (j ≡ None)
both_none None j e = (refl, e)
both_none (Some r) j e = (e, absurd (none-some r (sym e)))

-- a test in front of others: none fails where it is passed and none of the others fails
pub test_passed : (r : Refusal) (t : Bool) (rest : Option Refusal) → option_or (test r t) rest ≡ None → (t ≡ true) × (rest ≡ None)
test_passed r true rest e = (refl, e)
test_passed r false rest e = absurd (none-some r (sym e))

-- ---- the refusals of a sequence

equal_or : (p : ℕ → Bool) (k n : ℕ) (same rest : Bool) → eqb k n ≡ same → T (p n) → T (cond same true rest) → (T rest → T (p k)) → T (p k)
equal_or p k n true rest e h t f = let z : k ≡ n = eqb-true k n e in rw z h
equal_or p k n false rest e h t f = f t

-- what the number of each of the refusals passes, that of one of them passes
pub passes : (p : ℕ → Bool) (rs : List Refusal) {r : Refusal} → T (every (λ k. p (number_of k)) rs) → OneOf rs r → T (p (number_of r))
passes p [] all m = absurd m.member
passes p (k ∷ ks) {r} all m =
    let here = and_yes (p (number_of k)) (every (λ k. p (number_of k)) ks) all in
    equal_or p (number_of r) (number_of k) (eqb (number_of r) (number_of k)) (is_number_of ks (number_of r)) refl here.0 m.member
    (λ t. passes p ks here.1 (record { member = t }))

-- so one of refusals that are all among others is one of those
pub among : (rs ks : List Refusal) {r : Refusal} → T (every (λ k. is_number_of rs (number_of k)) ks) → OneOf ks r → OneOf rs r
among rs ks all m = record { member = passes (is_number_of rs) ks all m }

-- none, or one of the refusals
pub record Among (rs : List Refusal) (o : Option Refusal) : Type 0 where
  pub some : IfSome o (OneOf rs)

-- the first that fails, of tests that have these refusals
module _ {rs : List Refusal} where
  pub no_test : Among rs None
  no_test = record { some = tt }

  pub first_among : {j : Option Refusal} (k : Option Refusal) → Among rs k → Among rs j → Among rs (option_or k j)
  first_among None h g = g
  first_among (Some r) h g = record { some = h.some }

  pub test_among : {j : Option Refusal} (r : Refusal) (t : Bool) → OneOf rs r → Among rs j → Among rs (option_or (test r t) j)
  test_among r true h g = g
  test_among r false h g = record { some = h }
