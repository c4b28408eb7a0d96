-- A refusal with the length that it names, as the code makes it: `x.map_err(|refusal| Refused { refusal, length })?`. Assumes nothing.
use mathlib.Core.Path.{◌≡◌, refl, sym, ap, ◌∙◌}
use Prim.Native.Nat.{ℕ}
use Rattle.std.specs.Prelude.{Result, Ok, Err}
use Rattle.std.specs.Result.{MatchResult, IsErrAnd}
use Rattle.std.proofs.lemmas.Result.{err_from_is_err_and}
use Rattle.refusals.specs.declared.Refusal.{Refusal}
use Rattle.record.specs.declared.reader.Refused.{Refused}

module _ {A : Type 0} (P : Refusal → Refused → Type 0) where
  -- it leaves: x was that refusal
  pub leaves : (x : Result A Refusal) (y : Result A Refused) (n : ℕ) → MatchResult x (λ a. y ≡ Ok a) (λ e. IsErrAnd y (P e))
      → ((e : Refusal) (r : Refused) → P e r → r ≡ record { refusal = e; length = n })
      → {r : Refused} → y ≡ Err r → (x ≡ Err r.refusal) × (r.length ≡ n)
  leaves (Ok b) y n m made was = absurd (let z : ◌≡◌ {A = Result A Refused} (Ok b) (Err _) = sym m ∙ was in cc)
  leaves (Err e) y n m made {r} was =
      let is = made e r (rw was at m) in
      (ap (λ (r : Refused). Err r.refusal) (sym is), ap (λ (r : Refused). r.length) is)

  -- it stays as it is, or it is that refusal: what holds of both holds of y
  pub either_way : (x : Result A Refusal) (y : Result A Refused) (n : ℕ) → MatchResult x (λ a. y ≡ Ok a) (λ e. IsErrAnd y (P e))
      → ((e : Refusal) (r : Refused) → P e r → r ≡ record { refusal = e; length = n })
      → (Q : Result A Refused → Type 0) → ((a : A) → x ≡ Ok a → Q (Ok a))
      → ((e : Refusal) → x ≡ Err e → Q (Err (record { refusal = e; length = n }))) → Q y
  either_way (Ok a) y n m made Q kept named = rw m (kept a refl)
  either_way (Err e) y n m made Q kept named =
      let is = err_from_is_err_and y m in
      rw (is.1 ∙ ap Err (made e is.0 is.2)) (named e refl)
