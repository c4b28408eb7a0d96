-- One record after another: when the list ends, and where it goes on. Assumes nothing.
use mathlib.Core.Path.{◌≡◌, refl, ap, ◌∙◌}
use mathlib.Core.Bool.{Bool, true, false, cond}
use mathlib.Core.List.{List, [], ◌∷◌}
use Prim.Native.Nat.{ℕ, zero, suc, ◌-◌, ◌≤◌, ◌<◌}
use native.Mathlib.Numerals.{sub-one}
use native.Mathlib.Omega.{arith}
use borrow.Author.Tests.{ne_eqb, eqb-false}
use lib.Dec.{eqb}
use lib.ListN.{length, drop}
use Rattle.record.specs.declared.Reading.{Reading}
use Rattle.record.specs.Read.{read_of}
use Rattle.listing.specs.Records.{ends, readings, GoesOn}
use Rattle.listing.proofs.Lengths.{span}

-- ---- 20, 21 and 22
pub ends_yes : (k : ℕ) → 20 ≤ k → k < 23 → ends k ≡ true
ends_yes k h g = go (eqb k 20) (eqb k 21) (eqb k 22) refl refl refl
  where
    go : (a b c : Bool) → eqb k 20 ≡ a → eqb k 21 ≡ b → eqb k 22 ≡ c → cond a true (cond b true (cond c true false)) ≡ true
    go true b c p q r = refl
    go false true c p q r = refl
    go false false true p q r = refl
    go false false false p q r = absurd (eqb-false k 22 r (only (eqb-false k 20 p) (eqb-false k 21 q)))
      where
        only : (k ≡ 20 → ⊥) → (k ≡ 21 → ⊥) → k ≡ 22
        only u v = omega arith

pub ends_no : (k : ℕ) → (k ≡ 20 → ⊥) → (k ≡ 21 → ⊥) → (k ≡ 22 → ⊥) → ends k ≡ false
ends_no k a b c = rw (ne_eqb k 20 a, ne_eqb k 21 b, ne_eqb k 22 c)

-- ---- the records
pub none_left : (xs : List ℕ) → length xs ≡ 0 → readings 0 xs ≡ []
unfolding readings
none_left [] h = refl
none_left (x ∷ xs) h = absurd (omega arith)

-- the bytes that belong to the record before are skipped
skipped : (n : ℕ) (xs : List ℕ) → readings n xs ≡ readings 0 (drop n xs)
unfolding readings
skipped zero xs = refl
skipped (suc n) [] = refl
skipped (suc n) (x ∷ xs) = skipped n xs

-- the rule of `readings`
pub goes_on : (xs : List ℕ) → 0 < length xs → GoesOn xs
unfolding readings
goes_on [] h = absurd (omega arith)
goes_on (x ∷ xs) h =
    let r = read_of (x ∷ xs) in
    ap (λ (rs : List Reading). read_of (x ∷ xs) ∷ rs) (by_end (ends r.refusal) r.length (span (x ∷ xs)).low)
  where
    by_end : (t : Bool) (n : ℕ) → (t ≡ false → 4 ≤ n) → cond t [] (readings (n - 1) xs) ≡ cond t [] (readings 0 (drop n (x ∷ xs)))
    by_end true n low = refl
    by_end false zero low = absurd (omega (arith, low refl))
    by_end false (suc n) low = ap (λ (k : ℕ). readings k xs) (sub-one (suc n)) ∙ skipped n xs

-- ---- a record that is read is the first of the readings: none after it where the list ends, and those of what follows it where it goes on
module _ (xs : List ℕ) {r : Reading} (some : 0 < length xs) (is : r ≡ read_of xs) where
  pub last_read : ends r.refusal ≡ true → readings 0 xs ≡ r ∷ readings 0 []
  last_read e = rw (none_left [] refl, is) (rw (rw is at e) at (goes_on xs some))

  pub next_read : ends r.refusal ≡ false → readings 0 xs ≡ r ∷ readings 0 (drop r.length xs)
  next_read e = rw is (rw (rw is at e) at (goes_on xs some))

-- each record has a byte of its own
pub readings-few : (rest : ℕ) (xs : List ℕ) → length (readings rest xs) ≤ length xs
unfolding readings
readings-few rest [] = omega arith
readings-few zero (x ∷ xs) =
    let r = read_of (x ∷ xs) in
    go (ends r.refusal) (readings-few (r.length - 1) xs)
  where
    go : (t : Bool) → length (readings ((read_of (x ∷ xs)).length - 1) xs) ≤ length xs
        → length (read_of (x ∷ xs) ∷ cond t [] (readings ((read_of (x ∷ xs)).length - 1) xs)) ≤ length (x ∷ xs)
    go true h = omega arith
    go false h = omega arith
readings-few (suc rest) (x ∷ xs) = omega (arith, readings-few rest xs)
