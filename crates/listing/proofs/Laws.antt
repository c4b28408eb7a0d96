-- The laws of the list, about its definitions alone. Assumes nothing.
use mathlib.Core.Path.{◌≡◌, refl, ap}
use mathlib.Core.Bool.{Bool, true, false, cond}
use mathlib.Core.List.{List, [], ◌∷◌, ◌++◌}
use Prim.Native.Nat.{ℕ, zero, suc, ◌+◌, ◌*◌, ◌^◌, ◌≤◌, ◌<◌}
use native.Mathlib.Omega.{arith}
use borrow.Author.Tests.{eqb-true, le-leb, lt-leb}
use lib.Dec.{eqb}
use lib.ListN.{length, length-append, length-drop, drop}
use Rattle.clauses.specs.declared.Listed.{Listed}
use Rattle.clauses.specs.Check.{refused_listed, listed, check_of}
use Rattle.record.specs.declared.Reading.{Reading}
use Rattle.record.specs.Read.{read_of}
use Rattle.listing.specs.Line.{line}
use Rattle.listing.specs.Records.{ends, readings, GoesOn, answer_of, lines, list_of}
use Rattle.listing.specs.Code.Buffer.{room_for}
use Rattle.listing.specs.Program.{first_line, too_long, printed_of}
use Rattle.listing.proofs.Lengths.{span}
use Rattle.listing.proofs.Following.{none_left}
use Rattle.listing.proofs.Following as following
use Rattle.listing.proofs.Longest.{any_line, refused_line}
use Rattle.listing.proofs.Sizes.{check_fits}

-- what is read of an input that is not empty, and then, unless the list ends, the readings of what follows the record
pub goes_on : (xs : List ℕ) → 0 < length xs → GoesOn xs
goes_on = following.goes_on

-- ---- the text of the program: the list up to 65,536 bytes, 26 above

abbrev text_by : Bool → List ℕ → List ℕ
text_by fits xs = first_line ++ cond fits (list_of xs) too_long

pub printed_list : (xs : List ℕ) → length xs ≤ 65536 → printed_of xs ≡ first_line ++ list_of xs
unfolding printed_of
printed_list xs h = ap (λ (t : Bool). text_by t xs) (le-leb (length xs) 65536 h)

pub printed_26 : (xs : List ℕ) → 65536 < length xs → printed_of xs ≡ first_line ++ too_long
unfolding printed_of
printed_26 xs h = ap (λ (t : Bool). text_by t xs) (lt-leb (length xs) 65536 h)

-- ---- the length of a list

-- the line of the record that begins here: it has room, and takes no more than its record gives back
record Enough (xs : List ℕ) (n : ℕ) : Type 0 where
  here : n ≤ room_for (length xs)
  beyond : ends (read_of xs).refusal ≡ false → n ≤ 12 * (read_of xs).length

abbrev checked : Reading → Listed
checked r = listed (check_of r.section r.load)

enough : (xs : List ℕ) (k : ℕ) → k < 2 ^ 64 → Enough xs (length (line k (answer_of (read_of xs))))
enough xs k h = go (eqb (read_of xs).refusal 0) refl
  where
    go : (t : Bool) → eqb (read_of xs).refusal 0 ≡ t → Enough xs (length (line k (cond t (checked (read_of xs)) (refused_listed (read_of xs).refusal))))
    go true t =
        let long = (span xs).read (eqb-true (read_of xs).refusal 0 t) in
        let most = any_line k (checked (read_of xs)) h (check_fits (read_of xs).section (read_of xs).load) in
        record { here = omega (arith, (span xs).high); beyond = λ e. omega arith }
    go false t =
        let most = refused_line k (read_of xs).refusal h (span xs).small in
        record { here = omega arith; beyond = λ e. omega (arith, (span xs).low e) }

-- the lines of the records in xs, with the numbers from k on
abbrev Most : ℕ → List ℕ → Type 0
Most k xs = length (lines k (readings 0 xs)) ≤ room_for (length xs)

-- one line, where those of fewer bytes are so long at most
line-most : (n k : ℕ) (xs : List ℕ) → length xs ≤ suc n → k + length xs ≤ 2 ^ 64
    → ((ys : List ℕ) → length ys ≤ n → suc k + length ys ≤ 2 ^ 64 → Most (suc k) ys) → Most k xs
unfolding lines
line-most n k [] h g fewer = rw (none_left [] refl) (omega arith)
line-most n k (x ∷ xs) h g fewer =
    rw (goes_on (x ∷ xs) (omega arith)) (by_end (ends (read_of (x ∷ xs)).refusal) refl (enough (x ∷ xs) k (omega arith)))
  where
    by_end : (t : Bool) → ends (read_of (x ∷ xs)).refusal ≡ t → Enough (x ∷ xs) (length (line k (answer_of (read_of (x ∷ xs)))))
        → length (line k (answer_of (read_of (x ∷ xs))) ++ lines (suc k) (cond t [] (readings 0 (drop (read_of (x ∷ xs)).length (x ∷ xs)))))
        ≤ room_for (length (x ∷ xs))
    by_end true e room = simp length-append (omega (arith, room.here))
    by_end false e room =
        let r = span (x ∷ xs) in
        let left = length-drop (read_of (x ∷ xs)).length (x ∷ xs) in
        let low = r.low e in
        let rest = fewer (drop (read_of (x ∷ xs)).length (x ∷ xs)) (omega (arith, r.high)) (omega (arith, r.high)) in
        simp length-append (omega (arith, room.beyond e, r.high))

lines-most : (n k : ℕ) (xs : List ℕ) → length xs ≤ n → k + length xs ≤ 2 ^ 64 → Most k xs
unfolding lines
lines-most zero k xs h g = rw (none_left xs (omega arith)) (omega arith)
lines-most (suc n) k xs h g = line-most n k xs h g (lines-most n (suc k))

-- No list is longer than 12 bytes for each byte of input and 48. The condition is one of every machine: an input of 2 ^ 64 bytes or more
-- has records whose numbers take more digits.
pub list-most : (xs : List ℕ) → length xs < 2 ^ 64 → length (list_of xs) ≤ 12 * length xs + 48
unfolding list_of
list-most xs h = lines-most (length xs) 1 xs (omega arith) (omega arith)
