-- Laws of records that documents cite and no contract needs. Each follows from the definitions of specs/. Assumes nothing.
use mathlib.Core.Path.{◌≡◌, refl, sym, ap, ◌∙◌}
use mathlib.Core.List.{List, [], ◌∷◌, ◌++◌}
use Prim.Native.Nat.{ℕ, ◌-◌, ◌≤◌}
use native.Mathlib.Omega.{arith}
use lib.Dec.{leb}
use lib.ListN.{length, take, drop, replicate}
use lib.Seq.{length-take-le, take_at}
use Rattle.std.specs.Prelude.{Option, None, Some}
use Rattle.refusals.specs.declared.Refusal.{Refusal}
use Rattle.refusals.specs.declared.Refusal.TheVariants.{BufferTooShort}
use Rattle.refusals.specs.Chain.{test, first_failing}
use Rattle.refusals.proofs.Number.{number_above_0}
use Rattle.section.specs.Section.{Counted, counted, layers_of, no_layer, links_of}
use Rattle.section.specs.declared.Links.{Links}
use Rattle.section.specs.declared.Section.{Section}
use Rattle.section.specs.declared.Load.{Load}
use Rattle.section.specs.Rearranged.{SameBars}
use Rattle.section.specs.Refusals.{load_link_tests}
use Rattle.section.proofs.Rearranged.{tests_same}
use Rattle.sequence.specs.Order.{sorted, sequenced_layers}
use Rattle.sequence.proofs.Order.{sorted_rearranged, length-sorted, same_sorted, sequenced_layers_same}
use Rattle.record.specs.declared.Reading.{Reading}
use Rattle.record.specs.Map.{record_length}
use Rattle.record.specs.Layout.{map_of, record_of}
use Rattle.record.specs.Contents.{filled}
use Rattle.record.specs.Refusals.{names_length, write_tests}
use Rattle.record.specs.Read.{read_of}
use Rattle.record.specs.Write.{written_by, changed_by, record_written, written_of, buffer_of, bytes_written}
use Rattle.record.specs.RoundTrip.{cleared, read_back, ReadsBack}
use Rattle.record.proofs.Ignored.{rest_ignored}
use Rattle.record.proofs.Writing.{map_sequenced, length_record}

-- "sections that differ only there count as the same": places beyond the count, and numbers of absent links, are not written
module _ (s t : Section) (l : Load) (buf : List ℕ) (e : counted s ≡ counted t) (f : links_of s ≡ links_of t) where
  pub beyond_written : written_of (counted s) (links_of s) l buf ≡ written_of (counted t) (links_of t) l buf
  beyond_written = λ i. written_of (e i) (f i) l buf

  pub beyond_bytes : buffer_of (counted s) (links_of s) l buf ≡ buffer_of (counted t) (links_of t) l buf
  beyond_bytes = λ i. buffer_of (e i) (f i) l buf

-- the length that follows from the map is that of the record's bytes
pub record_length_lem : (c : Counted) (links : Links) (l : Load) → length (record_of c links l) ≡ record_length (map_of c links l)
record_length_lem c links l = length_record c links l

-- ---- one sequence of layers

-- Write answers the same of the same bars with the same links, and leaves the same buffer
module _ (s t : Section) (l : Load) (same : SameBars (counted s) (counted t)) (links : links_of s ≡ links_of t) where
  map_same : map_of (counted s) (links_of s) l ≡ map_of (counted t) (links_of t) l
  map_same =
      sym (map_sequenced (counted s) (links_of s) l) ∙ (λ i. map_of (sequenced_layers_same same i) (links i) l)
      ∙ map_sequenced (counted t) (links_of t) l

  record_same : record_written (counted s) (links_of s) l ≡ record_written (counted t) (links_of t) l
  record_same = λ i. record_of (sequenced_layers_same same i) (links i) l

  write_tests_same : (buf : List ℕ) → write_tests (counted s) (links_of s) l buf ≡ write_tests (counted t) (links_of t) l buf
  unfolding write_tests
  write_tests_same buf = λ i.
      tests_same same i ++ (load_link_tests (links i) l ++ (test BufferTooShort (leb (record_length (map_same i)) (length buf)) ∷ []))

  pub rearranged_written : (buf : List ℕ) → written_of (counted s) (links_of s) l buf ≡ written_of (counted t) (links_of t) l buf
  rearranged_written buf = λ i. written_by (record_length (map_same i)) (first_failing (write_tests_same buf i))

  pub rearranged_bytes : (buf : List ℕ) → buffer_of (counted s) (links_of s) l buf ≡ buffer_of (counted t) (links_of t) l buf
  rearranged_bytes buf = λ i. changed_by (record_same i) buf (first_failing (write_tests_same buf i))

-- what is written is the record of the section with its layers in sequence,
module _ (c : Counted) (links : Links) (l : Load) (buf : List ℕ) where
  abbrev n : ℕ
  n = record_length (map_of c links l)

  first_bytes : (k : Option Refusal) → (written_by n k).refusal ≡ 0
      → take (written_by n k).length (changed_by (record_written c links l) buf k) ≡ record_written c links l
  first_bytes None e =
      let R = record_written c links l in
      take_at R (drop (length R) buf) n (length_record (sequenced_layers c) links l ∙ ap record_length (map_sequenced c links l))
  first_bytes (Some r) e = absurd (omega (arith, number_above_0 r))

  bytes_are : (written_of c links l buf).refusal ≡ 0 → bytes_written c links l buf ≡ record_written c links l
  bytes_are = first_bytes (first_failing (write_tests c links l buf))

-- and so the same of the same bars, whatever was lent
pub canonical_bytes : (s t : Section) (l : Load) (xs ys : List ℕ) → SameBars (counted s) (counted t) → links_of s ≡ links_of t
    → (written_of (counted s) (links_of s) l xs).refusal ≡ 0 → (written_of (counted t) (links_of t) l ys).refusal ≡ 0
    → bytes_written (counted s) (links_of s) l xs ≡ bytes_written (counted t) (links_of t) l ys
canonical_bytes s t l xs ys same links e f =
    bytes_are (counted s) (links_of s) l xs e ∙ record_same s t l same links ∙ sym (bytes_are (counted t) (links_of t) l ys f)

-- the section that is read of its record: its layers are those that were written, in sequence
written_layers : (s : Section) → s.count ≤ length s.layers → layers_of (cleared s) ≡ sorted (layers_of s)
unfolding filled
written_layers s h =
    let ls = sorted (layers_of s) in
    take_at ls (replicate (16 - length ls) no_layer) s.count (length-sorted (layers_of s) ∙ length-take-le s.count s.layers h)

-- so it has the same bars
pub written_same : (s : Section) → s.count ≤ length s.layers → SameBars (counted s) (counted (cleared s))
written_same s h =
    record { width = refl; height = refl; grade = refl; count = refl; layers = rw (written_layers s h) (sorted_rearranged (layers_of s)) }

-- ---- the other way: what was written with the same bytes

-- a write that is read back, as the clause `round_trip` says, is read back of its own bytes
own_bytes : (s : Section) (l : Load) (xs : List ℕ)
    → ReadsBack s l (written_of (counted s) (links_of s) l xs) (buffer_of (counted s) (links_of s) l xs)
    → (written_of (counted s) (links_of s) l xs).refusal ≡ 0
    → read_of (bytes_written (counted s) (links_of s) l xs ++ []) ≡ read_back s l (written_of (counted s) (links_of s) l xs).length
own_bytes s l xs back e =
    let ys = buffer_of (counted s) (links_of s) l xs in
    let r : read_of ys ≡ read_back s l (written_of (counted s) (links_of s) l xs).length = back e in
    ap (λ (n : ℕ). read_of (take n ys ++ [])) (sym (ap (λ (r : Reading). r.length) r))
    ∙ rest_ignored ys (ap (λ (r : Reading). names_length r.refusal) r) [] ∙ r

-- two that are read back as the same have the same bars, links and load
same_reading : (s t : Section) (l m : Load) {n k : ℕ} → s.count ≤ length s.layers → t.count ≤ length t.layers → read_back s l n ≡ read_back t m k
    → SameBars (counted s) (counted t) × ((links_of s ≡ links_of t) × (l ≡ m))
same_reading s t l m h g r =
    let same : cleared s ≡ cleared t = ap (λ (r : Reading). r.section) r in
    let sorted_alike = sym (written_layers s h) ∙ ap layers_of same ∙ written_layers t g in (
      record {
        width = ap (λ (x : Section). x.width) same;
        height = ap (λ (x : Section). x.height) same;
        grade = ap (λ (x : Section). x.grade) same;
        count = ap (λ (x : Section). x.count) same;
        layers = same_sorted (layers_of s) (layers_of t) sorted_alike;
      },
      (ap (λ (x : Section). x.links) same, ap (λ (r : Reading). r.load) r),
    )

pub equal_bytes : (s t : Section) (l m : Load) (xs ys : List ℕ) → s.count ≤ length s.layers → t.count ≤ length t.layers
    → ReadsBack s l (written_of (counted s) (links_of s) l xs) (buffer_of (counted s) (links_of s) l xs)
    → ReadsBack t m (written_of (counted t) (links_of t) m ys) (buffer_of (counted t) (links_of t) m ys)
    → (written_of (counted s) (links_of s) l xs).refusal ≡ 0 → (written_of (counted t) (links_of t) m ys).refusal ≡ 0
    → bytes_written (counted s) (links_of s) l xs ≡ bytes_written (counted t) (links_of t) m ys
    → SameBars (counted s) (counted t) × ((links_of s ≡ links_of t) × (l ≡ m))
equal_bytes s t l m xs ys h g p q e f same =
    same_reading s t l m h g (sym (own_bytes s l xs p e) ∙ ap (λ (zs : List ℕ). read_of (zs ++ [])) same ∙ own_bytes t m ys q f)
