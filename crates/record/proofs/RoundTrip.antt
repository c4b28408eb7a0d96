-- Demand 2: a record that was written is read back, whatever bytes follow. Assumes nothing.
use mathlib.Core.Path.{◌≡◌, refl, sym, ap, ap₂, ◌∙◌, subst}
use mathlib.Core.Bool.{Bool, true, false, cond, not, ◌||◌}
use mathlib.Core.List.{List, [], ◌∷◌, ◌++◌, append_assoc, append-nil}
use Prim.Native.Nat.{ℕ, zero, suc, ◌+◌, ◌-◌, ◌/◌, ◌^◌, ◌≤◌, ◌<◌}
use native.Mathlib.Decide.{le_ind, dec_lt}
use native.Mathlib.Nat.{le_refl, le_of_lt, lt_of_lt_of_le, le_antisymm, mod-eq_of_lt, div-eq_of_lt}
use native.Mathlib.Omega.{arith}
use borrow.Author.Tests.{eq-eqb, lt-ltb, le-ltb, le-leb, leb-true}
use lib.Dec.{leb, ltb, lit≤}
use lib.IntN.{ℤ, pos, negsuc}
use lib.ListN.{length, get_or, take, drop, replicate, length-append}
use lib.Seq.{take-suc, take_all, take_at, length-take-le}
use Rattle.std.specs.Prelude.{Option, None, Some}
use Rattle.refusals.specs.declared.Refusal.{Refusal}
use Rattle.refusals.specs.Number.{number_or_0}
use Rattle.refusals.specs.declared.Refusal.TheVariants.{LayerSequence}
use Rattle.refusals.specs.Chain.{test, first_failing}
use Rattle.refusals.proofs.Chain.{both_none}
use Rattle.refusals.proofs.Number.{number_above_0}
use Rattle.arith.specs.Integer.{in_range}
use Rattle.arith.proofs.Test.{clash, both_true, and_true}
use Rattle.section.specs.Section.{Counted, counted, layers_of, no_layer, absent, no_links, links_with, links_of}
use Rattle.section.specs.Refusals.{section_tests, load_link_tests}
use Rattle.section.specs.declared.Layer.{Layer}
use Rattle.section.specs.declared.Links.{Links}
use Rattle.section.specs.declared.Section.{Section}
use Rattle.section.specs.declared.Load.{Load}
use Rattle.sequence.specs.Order.{ordered, sorted, sequenced_layers}
use Rattle.sequence.specs.Code.Sorting.{sequenced_section}
use Rattle.sequence.proofs.Order.{sorted-ordered, sequence_same}
use Rattle.sequence.proofs.Sorting.{length-first, counted_with, counted-sequenced}
use Rattle.record.specs.declared.Written.{Written}
use Rattle.record.specs.declared.fields.Number.{Number}
use Rattle.record.specs.declared.fields.Field.{Field}
use Rattle.record.specs.declared.fields.Field.TheVariants.{Must, May, LinkPair, LayerAt, Unused}
use Rattle.record.specs.Bytes.{number_at, bytes_of, signed, unsigned}
use Rattle.record.specs.Map.{stands, offset, record_length, only_fields, complete_to, complete}
use Rattle.record.specs.Fields.{width, field_of, link_bit, layer_bit, must_stand, is_number, missing}
use Rattle.record.specs.Contents.{number_of, links_at, links_in, layer_at, layers_to, filled, section_with, load_with, section_of, load_of}
use Rattle.record.specs.Layout.{value_of, field_bytes, writes, map_of, fields_to, fields, record_of}
use Rattle.record.specs.Refusals.{map_in, write_tests}
use Rattle.record.specs.Read.{accepted_reading, read_of}
use Rattle.record.specs.Write.{written_by, changed_by, record_written, written_of, buffer_of}
use Rattle.record.specs.RoundTrip.{read_back, ReadsBack}
use Rattle.section.proofs.Rearranged.{tests_same}
use Rattle.section.proofs.CountedLinks.{counted_none, counted_some, counted-absent, counted_twice}
use Rattle.record.proofs.Digits.{length_bytes, number_at-bytes_of, signed-unsigned, unsigned-fits}
use Rattle.record.proofs.Passed.{Machine, Carried, asked_of, asked_in_sequence, carried}
use Rattle.record.proofs.Places.{layers_yes, layers_no}
use Rattle.record.proofs.Readings.{chosen}
use Rattle.record.proofs.Table.{layer_field, within}
use Rattle.record.proofs.Writes.{write-first}
use Rattle.record.proofs.Writing.{stands-written, map-small, map_sequenced, length_field, fields_yes, length_fields, length_record}

-- a range of one number
only_one : (d z : ℤ) → in_range d d z ≡ true → d ≡ z
only_one (pos a) (pos b) e = let t = both_true (leb a b) (leb b a) e in ap pos (le_antisymm (leb-true a b t.0) (leb-true b a t.1))
only_one (pos a) (negsuc b) e = absurd (clash e refl)
only_one (negsuc a) (pos b) e = absurd (clash e refl)
only_one (negsuc a) (negsuc b) e = let t = both_true (leb b a) (leb a b) e in ap negsuc (le_antisymm (leb-true a b t.1) (leb-true b a t.0))

abbrev layer_of : ℕ → ℕ → Layer
layer_of d a = record { depth = d; area = a }

-- ---- the fields of the bits from k on stand after those below k
onward : (m : ℕ) (f : ℕ → List ℕ) (k n : ℕ) → k ≤ n → (q : List ℕ) × (fields_to m f n ≡ fields_to m f k ++ q)
unfolding fields_to
onward m f k n h =
    le_ind (λ (j : ℕ). (q : List ℕ) × (fields_to m f j ≡ fields_to m f k ++ q)) ([], sym (append-nil (fields_to m f k)))
    (λ j g e. (
      e.0 ++ cond (stands m j) (f j) [],
      ap (λ (l : List ℕ). l ++ cond (stands m j) (f j) []) e.1 ∙ append_assoc (fields_to m f k) e.0 (cond (stands m j) (f j) []),
    ))
    n h

-- bytes ys that stand in xs at a place
record At (xs : List ℕ) (at : ℕ) (ys : List ℕ) : Type 0 where
  front : List ℕ
  rest : List ℕ
  is : xs ≡ front ++ (ys ++ rest)
  place : length front ≡ at

number-at : {xs : List ℕ} {at : ℕ} (n v : ℕ) → At xs at (bytes_of n v) → v < 256 ^ n → number_at xs at n ≡ v
number-at {xs} n v a h =
    ap (λ (i : ℕ). number_at xs i n) (sym a.place) ∙ ap (λ (l : List ℕ). number_at l (length a.front) n) a.is
    ∙ number_at-bytes_of n v a.front a.rest ∙ mod-eq_of_lt h

-- the first of two runs of bytes, and the second
first : {xs : List ℕ} {at : ℕ} (ys zs : List ℕ) → At xs at (ys ++ zs) → At xs at ys
first ys zs a =
    record { front = a.front; rest = zs ++ a.rest; is = a.is ∙ ap (λ (l : List ℕ). a.front ++ l) (append_assoc ys zs a.rest); place = a.place }

second : {xs : List ℕ} {at : ℕ} (ys zs : List ℕ) (n : ℕ) → length ys ≡ n → At xs at (ys ++ zs) → At xs (at + n) zs
second ys zs n e a =
    record {
      front = a.front ++ ys;
      rest = a.rest;
      is = a.is ∙ ap (λ (l : List ℕ). a.front ++ l) (append_assoc ys zs a.rest) ∙ sym (append_assoc a.front ys (zs ++ a.rest));
      place = length-append a.front ys ∙ ap₂ (λ (i j : ℕ). i + j) a.place e;
    }

-- ---- the record of s and l, and any bytes after it
module _ (s : Section) (l : Load) (q : List ℕ) where
  abbrev c : Counted
  c = counted s

  abbrev links : Links
  links = links_of s

  abbrev M : ℕ
  M = map_of c links l

  abbrev X : List ℕ
  X = record_of c links l ++ q

  abbrev f : ℕ → List ℕ
  f k = field_bytes c links l (field_of k)

  map_back : M ≡ map_in X
  unfolding record_of
  map_back =
      sym (number-at 4 M (record { front = []; rest = fields c links l ++ q; is = append_assoc (bytes_of 4 M) (fields c links l) q; place = refl })
      (lt_of_lt_of_le (map-small c links l) (lit≤ tt)))

  -- the bytes of a bit that stands are where the reader looks for them
  field_at : (k : ℕ) → k < width → stands M k ≡ true → At X (offset M k) (f k)
  unfolding record_of fields
  field_at k h t =
      let o = onward M f (k + 1) width (omega arith) in
      let F = fields_to M f k in
      let B = bytes_of 4 M in
      let e : fields_to M f width ≡ F ++ (f k ++ o.0) = o.1 ∙ ap (λ (l : List ℕ). l ++ o.0) (fields_yes M f k t) ∙ append_assoc F (f k) o.0 in
      record {
        front = B ++ F;
        rest = o.0 ++ q;
        is = ap (λ (l : List ℕ). (B ++ l) ++ q) e
            ∙ ap (λ (l : List ℕ). l ++ q) (sym (append_assoc B F (f k ++ o.0)))
            ∙ append_assoc (B ++ F) (f k ++ o.0) q
            ∙ ap (λ (l : List ℕ). (B ++ F) ++ l) (append_assoc (f k) o.0 q);
        place = length-append B F ∙ ap₂ (λ (a b : ℕ). a + b) (length_bytes 4 M) (length_fields M f (λ k. length_field c links l (field_of k)) k);
      }

  -- a number, written or omitted
  abbrev value_at : Field → ℤ
  value_at (Must x) = value_of c l x
  value_at (May x d) = value_of c l x
  value_at LinkPair = pos 0
  value_at (LayerAt j) = pos 0
  value_at Unused = pos 0

  abbrev read_as : Field → ℕ → ℤ
  read_as y k = cond (is_number y) (cond (stands M k) (signed (number_at X (offset M k) 8)) (missing y)) (pos 0)

  written_back : (k : ℕ) (x : Number) → Carried s l → k < width → stands M k ≡ true → f k ≡ bytes_of 8 (unsigned (value_of c l x))
      → signed (number_at X (offset M k) 8) ≡ value_of c l x
  written_back k x ok h s e =
      let z = value_of c l x in
      let a = subst (At X (offset M k)) e (field_at k h s) in
      ap signed (number-at 8 (unsigned z) a (unsigned-fits z (ok.machine.numbers x))) ∙ signed-unsigned z (ok.machine.numbers x)

  number_back : Carried s l → (k : ℕ) → number_of X M k ≡ value_at (field_of k)
  number_back ok k = go (field_of k) refl
    where
      stands_as : (y : Field) → field_of k ≡ y → is_number y ≡ true → (k < width) × (stands M k ≡ writes c links l y)
      stands_as y e n =
          let h = within k (ap is_number e ∙ n) in
          (h, stands-written c links l k h ∙ ap (writes c links l) e)

      go : (y : Field) → field_of k ≡ y → read_as y k ≡ value_at y
      go (Must x) e =
          let s = stands_as (Must x) e refl in
          rw s.1 (written_back k x ok s.0 s.1 (ap (field_bytes c links l) e))
      go (May x d) e = may (in_range d d (value_of c l x)) refl
        where
          may : (t : Bool) → in_range d d (value_of c l x) ≡ t → read_as (May x d) k ≡ value_of c l x
          may true t =
              let s = stands_as (May x d) e refl in
              rw (s.1 ∙ ap not t) (only_one d (value_of c l x) t)
          may false t =
              let s = stands_as (May x d) e refl in
              rw (s.1 ∙ ap not t) (written_back k x ok s.0 (s.1 ∙ ap not t) (ap (field_bytes c links l) e))
      go LinkPair e = refl
      go (LayerAt j) e = refl
      go Unused e = refl

  -- the links
  link_stands : stands M link_bit ≡ not (absent links)
  link_stands = stands-written c links l link_bit (omega arith)

  links_back : Carried s l → links_in X M ≡ links
  links_back ok = go (absent s.links) refl
    where
      go : (t : Bool) → absent s.links ≡ t → links_in X M ≡ links
      go true e =
          let none : stands M link_bit ≡ false = link_stands ∙ ap not (counted-absent s.links ∙ e) in
          ap (λ (t : Bool). cond t (links_at X (offset M link_bit)) no_links) none ∙ sym (counted_none s.links e)
      go false e =
          let some : stands M link_bit ≡ true = link_stands ∙ ap not (counted-absent s.links ∙ e) in
          let A = bytes_of 4 links.area in
          let S = bytes_of 4 links.spacing in
          let a = field_at link_bit (omega arith) some in
          ap (λ (t : Bool). cond t (links_at X (offset M link_bit)) no_links) some
          ∙ ap₂ links_with (number-at 4 links.area (first A S a) ok.link_area)
          (number-at 4 links.spacing (second A S 4 (length_bytes 4 links.area) a) ok.link_spacing)
          ∙ ap (λ (k : Links). links_with k.area k.spacing) (counted_some s.links e) ∙ sym (counted_some s.links e)

  -- the layers
  layer-stands : (j : ℕ) → j < 16 → stands M (layer_bit j) ≡ ltb j c.count
  layer-stands j h = stands-written c links l (layer_bit j) (omega arith) ∙ ap (writes c links l) (layer_field j h)

  layer_back : (j : ℕ) → j < 16 → stands M (layer_bit j) ≡ true → Carried s l → layer_at X (offset M (layer_bit j)) ≡ get_or c.layers j no_layer
  layer_back j h t ok =
      let y = get_or c.layers j no_layer in
      let D = bytes_of 4 y.depth in
      let A = bytes_of 4 y.area in
      let a = subst (λ (x : Field). At X (offset M (layer_bit j)) (field_bytes c links l x)) (layer_field j h) (field_at (layer_bit j) (omega arith) t) in
      ap₂ layer_of (number-at 4 y.depth (first D A a) (ok.layers j).depth)
      (number-at 4 y.area (second D A 4 (length_bytes 4 y.depth) a) (ok.layers j).area)

  layers_back : Carried s l → length c.layers ≡ c.count → (j : ℕ) → j ≤ 16 → layers_to X M j ≡ take j c.layers
  unfolding layers_to
  layers_back ok n zero h = refl
  layers_back ok n (suc j) h = go (layers_back ok n j (le_of_lt h)) (dec_lt j c.count)
    where
      next : suc j ≡ j + 1
      next = omega arith

      go : layers_to X M j ≡ take j c.layers → Dec (j < c.count) → layers_to X M (suc j) ≡ take (suc j) c.layers
      go ih (yes lt) =
          let t : stands M (layer_bit j) ≡ true = layer-stands j h ∙ lt-ltb j c.count lt in
          ap (layers_to X M) next ∙ layers_yes X M j t
          ∙ ap₂ (λ (k : List Layer) (y : Layer). k ++ (y ∷ [])) ih (layer_back j h t ok)
          ∙ sym (take-suc c.layers j no_layer (omega arith))
      go ih (no ge) =
          let t : stands M (layer_bit j) ≡ false = layer-stands j h ∙ le-ltb j c.count (omega arith) in
          ap (layers_to X M) next ∙ layers_no X M j t
          ∙ ih ∙ take_all j c.layers (omega arith) ∙ sym (take_all (suc j) c.layers (omega arith))

  -- the tests of the map and the length
  only_fields_back : only_fields M ≡ true
  unfolding only_fields
  only_fields_back = eq-eqb (M / 2 ^ width) 0 (div-eq_of_lt (map-small c links l))

  complete_to_back : (k : ℕ) → k ≤ width → complete_to M k ≡ true
  unfolding complete_to
  complete_to_back zero h = refl
  complete_to_back (suc k) h = and_true (go (field_of k) (stands-written c links l k h)) (complete_to_back k (le_of_lt h))
    where
      go : (y : Field) → stands M k ≡ writes c links l y → not (must_stand y) || stands M k ≡ true
      go (Must x) e = e
      go (May x d) e = refl
      go LinkPair e = refl
      go (LayerAt j) e = refl
      go Unused e = refl

  complete_back : complete M ≡ true
  unfolding complete
  complete_back = complete_to_back width (le_refl width)

  long_enough : record_length M ≤ length X
  long_enough = omega (arith, length_record c links l, length-append (record_of c links l) q)

-- ---- the section that is read as its layers stand: what is counted of it is what was written
abbrev standing : Section → Section
standing s = record { layers = filled (layers_of s); width = s.width; height = s.height; grade = s.grade; links = links_of s; count = s.count }

module _ (s : Section) (l : Load) (ok : Carried s l) where
  all-counted : length (layers_of s) ≡ s.count
  all-counted = length-take-le s.count s.layers (omega (arith, ok.machine.places, ok.few))

  same_counted : counted (standing s) ≡ counted s
  unfolding filled
  same_counted =
      ap (λ (ls : List Layer). counted_with s ls) (take_at (layers_of s) (replicate (16 - length (layers_of s)) no_layer) s.count all-counted)

  section_back : (q : List ℕ) → standing s ≡ section_of (X s l q) (M s l q)
  unfolding section_of
  section_back q =
      let ls = layers_back s l q ok all-counted 16 (le_refl 16) ∙ take_all 16 (layers_of s) (omega (arith, all-counted, ok.few)) in
      sym ((λ i. section_with (λ k. number_back s l q ok k i) (links_back s l q ok i) (ls i)) ∙ ap (λ (n : ℕ). with_count n) all-counted)
    where
      with_count : ℕ → Section
      with_count n = record { layers = filled (layers_of s); width = s.width; height = s.height; grade = s.grade; links = links_of s; count = n }

  load_back : (q : List ℕ) → l ≡ load_of (X s l q) (M s l q)
  unfolding load_of
  load_back q = sym (λ i. load_with (λ k. number_back s l q ok k i))

-- the record of a section whose layers stand in their sequence, and any bytes after it
standing_back : (s : Section) (l : Load) (q : List ℕ) → Machine s l → asked_of s l ≡ None → ordered (layers_of s) ≡ true
    → accepted_reading (record_length (M s l q)) (standing s) l ≡ read_of (X s l q)
standing_back s l q machine passed up =
    let ok = carried s l machine passed in
    let m = M s l q in
    let xs = X s l q in
    let long = long_enough s l q in
    let tests : Counted → Links → Option Refusal =
    λ c k. first_failing (section_tests c ++ (test LayerSequence (ordered c.layers) ∷ load_link_tests k l)) in
    let r = sym passed ∙ asked_in_sequence s l up ∙ (λ i. tests (sym (same_counted s l ok) i) (sym (counted_twice s.links) i)) in
    chosen xs true true true true None (map_back s l q) (section_back s l ok q) (load_back s l ok q)
    (sym (le-leb 4 (length xs) (omega arith))) (sym (only_fields_back s l q)) (sym (le-leb (record_length m) (length xs) long)) (sym (complete_back s l q)) r

-- ---- of any section, with its layers put in their sequence
module _ (s : Section) (l : Load) (machine : Machine s l) (passed : asked_of s l ≡ None) where
  abbrev sequenced : Section
  sequenced = sequenced_section s

  sequenced_is : counted sequenced ≡ sequenced_layers (counted s)
  sequenced_is = counted-sequenced s

  same_machine : Machine sequenced l
  same_machine = record { places = length-first s.count s.layers ∙ machine.places; numbers = machine.numbers }

  same_asked : asked_of sequenced l ≡ None
  same_asked =
      (λ i. first_failing (section_tests (sequenced_is i) ++ load_link_tests (links_of s) l))
      ∙ sym (λ i. first_failing (tests_same (sequence_same (counted s)) i ++ load_link_tests (links_of s) l)) ∙ passed

  in_sequence : ordered (layers_of sequenced) ≡ true
  in_sequence = ap (λ (c : Counted). ordered c.layers) sequenced_is ∙ sorted-ordered (layers_of s)

  pub record_back : (q : List ℕ)
      → read_back s l (record_length (map_of (counted s) (links_of s) l)) ≡ read_of (record_written (counted s) (links_of s) l ++ q)
  record_back q =
      sym ((λ i. accepted_reading (record_length (map_of (sequenced_is i) (links_of s) l)) (filled_with (sequenced_is i).layers) l)
      ∙ (λ i. accepted_reading (record_length (map_sequenced (counted s) (links_of s) l i)) (filled_with (sorted (layers_of s))) l))
      ∙ standing_back sequenced l q same_machine same_asked in_sequence
      ∙ (λ i. read_of (record_of (sequenced_is i) (links_of s) l ++ q))
    where
      filled_with : List Layer → Section
      filled_with ls = record { layers = filled ls; width = s.width; height = s.height; grade = s.grade; links = links_of s; count = s.count }

-- the buffer of a write that was accepted, read afterwards
round_trip : (s : Section) (l : Load) (buf : List ℕ) → Machine s l → (k : Option Refusal) → first_failing (write_tests (counted s) (links_of s) l buf) ≡ k
    → ReadsBack s l (written_by (record_length (map_of (counted s) (links_of s) l)) k)
    (changed_by (record_written (counted s) (links_of s) l) buf k)
round_trip s l buf machine (Some r) e z = absurd (omega (arith, number_above_0 r))
round_trip s l buf machine None e z =
    let c = counted s in
    let links = links_of s in
    let passed = both_none (asked_of s l) _ (sym (write-first c links l buf) ∙ e) in
    sym (record_back s l machine passed.0 (drop (length (record_written c links l)) buf))

written_refusal : (n : ℕ) (k : Option Refusal) → (written_by n k).refusal ≡ number_or_0 k
written_refusal n None = refl
written_refusal n (Some r) = refl

-- the other clauses of `write` follow from its first two
pub write_clauses : (s : Section) (l : Load) (buf : List ℕ) {r : Written} {after : List ℕ} → Machine s l
    → r ≡ written_of (counted s) (links_of s) l buf → after ≡ buffer_of (counted s) (links_of s) l buf
    → (r.refusal ≡ number_or_0 (first_failing (write_tests (counted s) (links_of s) l buf))) × ReadsBack s l r after
write_clauses s l buf machine e g =
    let k = first_failing (write_tests (counted s) (links_of s) l buf) in (
      ap (λ (r : Written). r.refusal) e ∙ written_refusal (record_length (map_of (counted s) (links_of s) l)) k,
      rw (e, g) (round_trip s l buf machine k refl),
    )
