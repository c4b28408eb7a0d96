-- Writing one text after another into a buffer. Assumes nothing.
use mathlib.Core.Path.{◌≡◌, refl, sym, ap, ap₂, ◌∙◌}
use mathlib.Core.List.{List, [], ◌∷◌, ◌++◌}
use Prim.Native.Nat.{ℕ, ◌+◌, ◌≤◌, ◌<◌}
use native.Mathlib.Numerals.{add-one}
use native.Mathlib.Omega.{arith}
use lib.ListN.{length, take, drop, set, length-append}
use lib.Seq.{set_split}
use Rattle.record.specs.Bytes.{placed}
use Rattle.record.proofs.Lent.{placed_none, placed_more, length-placed}
use Rattle.clauses.specs.declared.Listed.{Listed}
use Rattle.record.specs.declared.Reading.{Reading}
use Rattle.listing.specs.Line.{line}
use Rattle.listing.specs.Records.{answer_of, lines}
use Rattle.listing.specs.Code.Buffer.{Put}

-- one byte
pub stored : (xs : List ℕ) (at b : ℕ) → at < length xs → Put xs at (b ∷ []) (set xs at b) (at + 1)
unfolding placed
stored xs at b h = record { end = refl; bytes = set_split xs at b h ∙ ap (λ (k : ℕ). take at xs ++ (b ∷ drop k xs)) (sym (add-one at)) }

-- the same text
pub same_text : {xs ys : List ℕ} {at next : ℕ} {s t : List ℕ} → s ≡ t → Put xs at s ys next → Put xs at t ys next
same_text {xs} {ys} {at} {next} e p = rw (← e) p

-- one after the other
pub then : {xs ys zs : List ℕ} {at j k : ℕ} {s t : List ℕ} → at + length s ≤ length xs → Put xs at s ys j → Put ys j t zs k → Put xs at (s ++ t) zs k
then {xs} {ys} {zs} {at} {j} {k} {s} {t} h p q =
    record {
      end = omega (arith, p.end, q.end, length-append s t);
      bytes = q.bytes ∙ ap₂ (λ (l : List ℕ) (i : ℕ). placed l i t) p.bytes p.end ∙ placed_more xs at s t h;
    }

pub kept : {xs ys : List ℕ} {at next : ℕ} {s : List ℕ} → at + length s ≤ length xs → Put xs at s ys next → length ys ≡ length xs
kept {xs} {at} {s} h p = ap length p.bytes ∙ length-placed xs at s h

-- Finishing: with `left` written at the place j, the buffer ys becomes what xs becomes with the whole text written at `at`.
pub record Left (xs : List ℕ) (at : ℕ) (whole ys : List ℕ) (j : ℕ) (left : List ℕ) : Type 0 where
  pub end : j + length left ≡ at + length whole
  pub bytes : placed ys j left ≡ placed xs at whole
  pub size : length ys ≡ length xs

pub begun : (xs : List ℕ) (at : ℕ) (whole : List ℕ) → Left xs at whole xs at whole
begun xs at whole = record { end = refl; bytes = refl; size = refl }

-- the next part is written
next : {xs ys zs whole : List ℕ} {at j k : ℕ} {s : List ℕ} (t : List ℕ) → j + length s ≤ length ys
    → Left xs at whole ys j (s ++ t) → Put ys j s zs k → Left xs at whole zs k t
next {xs} {ys} {zs} {whole} {at} {j} {k} {s} t h l p =
    record {
      end = omega (arith, p.end, l.end, length-append s t);
      bytes = ap₂ (λ (b : List ℕ) (i : ℕ). placed b i t) p.bytes p.end ∙ placed_more ys j s t h ∙ l.bytes;
      size = kept h p ∙ l.size;
    }

pub finished : {xs ys whole : List ℕ} {at j : ℕ} → Left xs at whole ys j [] → Put xs at whole ys j
finished {xs} {ys} {whole} {at} {j} l = record { end = omega (arith, l.end); bytes = placed_none ys j ∙ l.bytes }

-- where there is room for the whole there is room for the next part
pub has_room : {xs ys whole : List ℕ} {at j : ℕ} (s t : List ℕ) → at + length whole ≤ length xs → Left xs at whole ys j (s ++ t)
    → j + length s ≤ length ys
has_room s t h l = omega (arith, l.end, l.size, length-append s t)

pub next_in : {xs ys zs whole : List ℕ} {at j k : ℕ} {s : List ℕ} (t : List ℕ) → at + length whole ≤ length xs
    → Left xs at whole ys j (s ++ t) → Put ys j s zs k → Left xs at whole zs k t
next_in {s} t h l p = next t (has_room s t h l) l p

-- the line of the record at hand is the next part
pub line_first : {xs ys whole : List ℕ} {at j : ℕ} {a : Listed} {r : Reading} {rs rest : List Reading} (k : ℕ) → rs ≡ r ∷ rest → a ≡ answer_of r
    → Left xs at whole ys j (lines k rs) → Left xs at whole ys j (line k a ++ lines (k + 1) rest)
unfolding lines
line_first k e is l = rw (add-one, is) (rw e at l)
