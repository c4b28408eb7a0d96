-- A first line, a text after it in the same buffer, and what it has to be. Assumes nothing.
use Prim.Native.Nat.{ℕ, ◌+◌, ◌-◌, ◌≤◌}
use mathlib.Core.Bool.{true}
use mathlib.Core.List.{List, ◌++◌, append-nil}
use mathlib.Core.Path.{◌≡◌, refl, sym, ap, ap₂, subst, ◌∙◌}
use native.Mathlib.Nat.{zero-add}
use native.Mathlib.Omega.{arith}
use borrow.Author.Tests.{le-leb}
use borrow.Rule.Slice.PartMut.{mid_of, put_mid}
use lib.Dec.{leb}
use lib.ListN.{length, take, drop, length-append, length-drop, drop_of_length-le}
use lib.Seq.{length-take-le, take_all, take_at, drop-drop}
use Rattle.record.specs.declared.Written.{Written}
use Rattle.record.specs.Bytes.{placed}
use Rattle.listing.specs.Code.Buffer.{Put}
use Rattle.listing.specs.Answers.{text_written, text_buffer}
use Rattle.listing.specs.Program.{first_line, printed_of}
use Rattle.listing.proofs.Finishing.{then}
use Rattle.std.specs.Borrow.{Bor}
use Rattle.std.specs.Prelude.{Option, None, Some, IfSome}
use Rattle.check_list.specs.Input.{Had, IsPrefixLen}

-- a text at the start lies within the buffer
pub within : {xs s ys : List ℕ} {n : ℕ} → Put xs 0 s ys n → n ≤ length ys
unfolding placed
within {xs} {s} p = omega (arith, p.end, ap length p.bytes, length-append s (drop (0 + length s) xs))

pub prefix_len : (n : ℕ) (xs : List ℕ) → n ≤ length xs → IsPrefixLen n xs
prefix_len n xs h = (h, sym (length-take-le n xs h))

-- what is put at the start of the part from `at` on is put at that place of the whole
part_put : (xs : List ℕ) (at : ℕ) (t : List ℕ) → at ≤ length xs
    → put_mid at (length xs - at) xs (placed (mid_of at (length xs - at) xs) 0 t) ≡ placed xs at t
unfolding placed
part_put xs at t h =
    let all : length (drop at xs) ≤ length xs - at = omega (arith, length-drop at xs) in
    rw (take_all (length xs - at) (drop at xs) all, drop_of_length-le (drop at xs) all, zero-add (length t), drop-drop (length t) at xs)
    (ap (λ (l : List ℕ). take at xs ++ l) (append-nil (t ++ drop (at + length t) xs)))

-- the buffer xs with the first line is ys; the part after it becomes zs, as r answers, with the text t at its start: both in the whole
abbrev pub Both : List ℕ → List ℕ → List ℕ → ℕ → List ℕ → Written → Type 0
Both xs ys zs at t r = Put xs 0 (first_line ++ t) (put_mid at (length ys - at) ys zs) (at + r.length)

module _ {xs ys zs : List ℕ} {at : ℕ} (room : ℕ) (t : List ℕ) {r : Written} (first : Put xs 0 first_line ys at)
    (same : length ys ≡ length xs) (enough : room + 42 ≤ length xs) (answer : r ≡ text_written room t (mid_of at (length ys - at) ys))
    (lent : zs ≡ text_buffer room t (mid_of at (length ys - at) ys)) where
  is_room : leb room (length (mid_of at (length ys - at) ys)) ≡ true
  is_room =
      let all : length (drop at ys) ≤ length ys - at = omega (arith, length-drop at ys) in
      let whole = ap length (take_all (length ys - at) (drop at ys) all) in
      le-leb room (length (mid_of at (length ys - at) ys)) (omega (arith, length-drop at ys, first.end))

  after_it : Put ys at t (put_mid at (length ys - at) ys zs) (at + r.length)
  after_it =
      record {
        end = rw (answer, is_room);
        bytes = rw (lent, is_room) (part_put ys at t (omega (arith, first.end)));
      }

  pub both_put : Both xs ys zs at t r
  both_put = then (omega arith) first after_it

-- ---- the bytes of the text in the buffer

pub printed : {xs s ys : List ℕ} {n : ℕ} → Put xs 0 s ys n → take n ys ≡ s
unfolding placed
printed {xs} {s} {ys} {n} p =
    ap₂ (λ (k : ℕ) (l : List ℕ). take k l) (p.end ∙ zero-add (length s)) p.bytes ∙ take_at s (drop (0 + length s) xs) (length s) refl

-- What holds of the bytes of the text holds of the text for all that a reader had.
pub of_all : (had : Option (List ℕ)) (taken : Option (Bor (List ℕ))) (before after : List ℕ) (n : ℕ) (P : List ℕ → Type 0)
    → IfSome had (λ xs. Had taken 65536 xs) → ((xs : List ℕ) → Had taken 65536 xs → Put before 0 (printed_of xs) after n)
    → P (take n after) → IfSome had (λ xs. P (printed_of xs))
of_all None taken before after n P b put p = tt
of_all (Some xs) taken before after n P b put p = subst P (printed (put xs b)) p
