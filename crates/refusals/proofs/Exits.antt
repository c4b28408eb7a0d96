-- A test of a call's sequence as the code makes it, `Refusal::R.unless(t)?`: where it leaves, the test failed and the answer is that refusal; where
-- it goes on, the test passed. What any `?` returns, and what `(lo..=hi).contains(&x)` tests. Assumes nothing.
use Prim.Native.Nat.{ℕ}
use mathlib.Core.Bool.{Bool, true, false, cond, ◌&&◌}
use mathlib.Core.Path.{◌≡◌, refl, sym, ap, ◌∙◌}
use native.Mathlib.Omega.{arith}
use lib.Dec.{leb, ltb}
use lib.IntN.{ℤ, pos, negsuc}
use lib.Signed.{le_z}
use Rattle.std.specs.Prelude.{Option, None, Some, Result, Ok, Err}
use Rattle.std.proofs.Common.{Less, Equal, Greater}
use Rattle.std.specs.Ordering.{int_cmp, is_le, partial_le, partial_lt}
use Rattle.std.specs.Option.{ok_or}
use Rattle.std.specs.Result.{result_err, MatchResult, IsErrAnd}
use Rattle.std.proofs.lemmas.Option.{none-some, same_Some}
use Rattle.std.proofs.lemmas.Result.{err_from_is_err_and}
use Rattle.arith.specs.Integer.{in_range}
use Rattle.refusals.specs.declared.Refusal.{Refusal}
use Rattle.refusals.specs.Chain.{test}

-- ---- any `?`: where it leaves, the error is returned as it is, `returned _ c.from_residual.ensures.1`

pub returned : {B E : Type 0} {e : E} (r : Result B E) → IsErrAnd r (λ y. y ≡ e) → r ≡ Err e
returned r from = let p = err_from_is_err_and r from in p.1 ∙ ap Err p.2

-- and where the error was made another before, `x.map_err(f)?`: it goes on where x was there,
-- `goes_on _ c.x.result c.map_err.result c.map_err.ensures.cases c.in_ok-x.was`
pub goes_on : {A E F : Type 0} (P : E → F → Type 0) (x : Result A E) (y : Result A F) → MatchResult x (λ a. y ≡ Ok a) (λ e. IsErrAnd y (P e))
    → {a : A} → y ≡ Ok a → x ≡ Ok a
goes_on {A} {E} {F} P (Ok b) y m was = let e : ◌≡◌ {A = Result A F} (Ok b) (Ok _) = sym m ∙ was in cc
goes_on P (Err e) y m was = absurd (rw was at m)

-- ---- what `unless` returned, of a test t that has the refusal R: write `_` for R, and `c.unless.ensures` for what it said

module _ {A : Type 0} (R : Refusal) {t : Bool} {u : Result A Refusal} (said : result_err u ≡ test R t) where
  ok : {x : A} (b : Bool) → t ≡ b → u ≡ Ok x → t ≡ true
  ok true is was = is
  ok false is was = absurd (none-some R (rw (was, is) at said))

  -- it goes on: `passed _ c.unless.ensures c.in_ok-unless.was`
  pub passed : {x : A} → u ≡ Ok x → t ≡ true
  passed was = ok t refl was

  err : {e : Refusal} (b : Bool) → t ≡ b → u ≡ Err e → (t ≡ false) × (e ≡ R)
  err {e} true is was = absurd (none-some e (sym (rw (was, is) at said)))
  err {e} false is was = (is, same_Some e R (rw (was, is) at said))

  -- it leaves: `refused _ c.unless.ensures _ c.from_residual.ensures.1 c.in_err-unless.was`
  pub refused : {B : Type 0} {e : Refusal} (r : Result B Refusal) → IsErrAnd r (λ y. y ≡ e) → u ≡ Err e → (t ≡ false) × (r ≡ Err R)
  refused r from was = let failed = err t refl was in (failed.0, returned r from ∙ ap Err failed.1)

-- ---- the same of `o.ok_or(R)?`, a test that o is there

module _ {A : Type 0} (R : Refusal) {o : Option A} {u : Result A Refusal} (said : u ≡ ok_or o R) where
  -- it goes on: `is_there _ c.ok_or.ensures.value c.in_ok-x.was`
  pub is_there : {x : A} → u ≡ Ok x → o ≡ Some x
  is_there was = grind arith

  -- it leaves: `is_missing _ c.ok_or.ensures.value _ c.from_residual.ensures.1 c.in_err-x.was`
  pub is_missing : {B : Type 0} {e : Refusal} (r : Result B Refusal) → IsErrAnd r (λ y. y ≡ e) → u ≡ Err e → (o ≡ None) × (r ≡ Err R)
  is_missing {e} r from was =
      let none : o ≡ None = grind arith in
      let same : e ≡ R = grind arith in
      (none, returned r from ∙ ap Err same)

-- ---- ranges

below : (a b : ℕ) → leb a b ≡ is_le (cond (ltb a b) Less (cond (ltb b a) Greater Equal))
below a b = grind arith

at_most : (x y : ℤ) → is_le (int_cmp x y) ≡ le_z x y
at_most (pos a) (pos b) = sym (below a b)
at_most (pos a) (negsuc b) = refl
at_most (negsuc a) (pos b) = refl
at_most (negsuc a) (negsuc b) = sym (below b a)

-- the test of a range lo to hi, from what `new` and `contains` ensure:
-- `contained _ c.new.ensures.start c.new.ensures.end c.new.ensures.exhausted c.contains.ensures.value`,
pub contained : {lo hi start end : ℤ} (x : ℤ) {spent t : Bool} → start ≡ lo → end ≡ hi → spent ≡ false
    → t ≡ (partial_le (λ a b. Some (int_cmp a b)) start x
    && cond spent (partial_lt (λ a b. Some (int_cmp a b)) x end) (partial_le (λ a b. Some (int_cmp a b)) x end))
    → t ≡ in_range lo hi x
contained {lo} {hi} x low high fresh is = is ∙ rw (low, high, fresh, at_most lo x, at_most x hi) refl
