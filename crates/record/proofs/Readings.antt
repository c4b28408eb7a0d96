-- A reading by the answers of its tests, the refusals that it has, and its length. Assumes nothing.
use mathlib.Core.Path.{◌≡◌, refl, sym, ap, ◌∙◌}
use mathlib.Core.Bool.{Bool, true, false, cond, not}
use mathlib.Core.List.{List, [], ◌∷◌, ◌++◌}
use Prim.Native.Nat.{ℕ, ◌≤◌, ◌<◌}
use native.Mathlib.Omega.{arith}
use borrow.Author.Tests.{leb-true}
use lib.Dec.{leb, lit<}
use lib.ListN.{length}
use Rattle.std.specs.Prelude.{Option, None, Some}
use Rattle.std.specs.Option.{option_or}
use Rattle.arith.proofs.Test.{is_true, both_true, clash}
use Rattle.refusals.specs.declared.Refusal.{Refusal}
use Rattle.refusals.specs.declared.Refusal.TheVariants.{MapCut, UnknownField, RecordCut, FieldMissing, LayerSequence}
use Rattle.refusals.specs.Number.{number_of, number_or_0}
use Rattle.refusals.specs.Chain.{test, first_failing, OneOf}
use Rattle.refusals.proofs.Number.{number_small, number_above_0}
use Rattle.refusals.proofs.Chain.{first_of, both_none, test_passed, passes, among, Among, no_test, first_among, test_among}
use Rattle.section.specs.Section.{counted, layers_of, links_of}
use Rattle.section.specs.Refusals.{section_tests, section_refusals, load_link_tests, load_link_refusals}
use Rattle.section.specs.declared.Section.{Section}
use Rattle.section.specs.declared.Load.{Load}
use Rattle.section.proofs.Usable.{section_among, load_link_among}
use Rattle.sequence.specs.Order.{ordered}
use Rattle.record.specs.declared.Reading.{Reading}
use Rattle.record.specs.Map.{stands, record_length, only_fields, complete_to, complete}
use Rattle.record.specs.Contents.{section_of, load_of}
use Rattle.record.specs.Refusals.{map_in, map_tests, content_tests, held_tests, read_tests, read_refusals, names_length}
use Rattle.record.specs.Read.{accepted_reading, refused_reading, reading_by, read_of}
use Rattle.record.proofs.Bits.{room, offset_yes}

-- ---- by the answers of the tests: 20, 21, 22, 23, and those of the section, its sequence, the load and the links
abbrev pub by_answers : Bool → Bool → Bool → Bool → ℕ → Section → Load → Option Refusal → Reading
by_answers a b c d n s l k =
    reading_by n s l (option_or (test MapCut a) (option_or (test UnknownField b) (option_or (test RecordCut c) (option_or (test FieldMissing d) k))))

abbrev pub tests_of : Section → Load → Option Refusal
tests_of s l = first_failing (content_tests s l)

-- `refl` where an answer does not matter
pub chosen : (xs : List ℕ) {m : ℕ} {s : Section} {l : Load} (a b c d : Bool) (k : Option Refusal) → m ≡ map_in xs → s ≡ section_of xs m → l ≡ load_of xs m
    → a ≡ leb 4 (length xs) → b ≡ only_fields m → c ≡ leb (record_length m) (length xs) → d ≡ complete m → k ≡ tests_of s l
    → by_answers a b c d (record_length m) s l k ≡ read_of xs
unfolding read_of read_tests
chosen xs {m} {s} {l} a b c d k em es el ea eb ec ed ek =
    (λ i. by_answers (ea i) (eb i) (ec i) (ed i) (record_length m) s l (ek i))
    ∙ (λ i. of m (es i) (el i))
    ∙ ap (λ (m : ℕ). of m (section_of xs m) (load_of xs m)) em
  where
    of : ℕ → Section → Load → Reading
    of m s l = by_answers (leb 4 (length xs)) (only_fields m) (leb (record_length m) (length xs)) (complete m) (record_length m) s l (tests_of s l)

-- ---- the refusals
widen : {ks rs : List Refusal} (o : Option Refusal) → ((r : Refusal) → OneOf ks r → OneOf rs r) → Among ks o → Among rs o
widen None f h = record { some = tt }
widen (Some r) f h = record { some = f r h.some }

pub tests_among : {rs : List Refusal} (s : Section) (l : Load) → ((r : Refusal) → OneOf section_refusals r → OneOf rs r) → OneOf rs LayerSequence
    → ((r : Refusal) → OneOf load_link_refusals r → OneOf rs r) → Among rs (tests_of s l)
tests_among {rs} s l f m g =
    let t = ordered (layers_of s) in
    rw (first_of (section_tests (counted s)) (test LayerSequence t ∷ load_link_tests (links_of s) l))
    (first_among (first_failing (section_tests (counted s))) (widen _ f (section_among (counted s)))
    (test_among LayerSequence t m (widen _ g (load_link_among (links_of s) l))))

-- those of the map name no length, and those of the fields and of what they hold do
map_among : (xs : List ℕ) → Among (MapCut ∷ UnknownField ∷ RecordCut ∷ []) (first_failing (map_tests xs))
map_among xs =
    let m = map_in xs in
    test_among MapCut (leb 4 (length xs)) (record { member = tt }) (
    test_among UnknownField (only_fields m) (record { member = tt }) (
    test_among RecordCut (leb (record_length m) (length xs)) (record { member = tt }) no_test))

held_refusals : List Refusal
held_refusals = FieldMissing ∷ (section_refusals ++ (LayerSequence ∷ load_link_refusals))

held_among : (m : ℕ) (s : Section) (l : Load) → Among held_refusals (first_failing (held_tests m s l))
unfolding held_refusals
held_among m s l =
    test_among FieldMissing (complete m) (record { member = tt }) (
    tests_among s l (λ r. among held_refusals section_refusals tt) (record { member = tt }) (λ r. among held_refusals load_link_refusals tt))

-- ---- what is answered, by the first test that fails
module _ (xs : List ℕ) where
  abbrev m : ℕ
  m = map_in xs

  -- those of the map, and then those of its fields and of what they hold
  abbrev held : Option Refusal
  held = first_failing (held_tests m (section_of xs m) (load_of xs m))

  first : first_failing (read_tests xs) ≡ option_or (first_failing (map_tests xs)) held
  unfolding read_tests
  first = first_of (map_tests xs) (held_tests m (section_of xs m) (load_of xs m))

  -- no refusal but those of its tests
  pub read_among : Among read_refusals (first_failing (read_tests xs))
  unfolding held_refusals
  read_among =
      rw first
      (first_among (first_failing (map_tests xs)) (widen _ (λ r. among read_refusals (MapCut ∷ UnknownField ∷ RecordCut ∷ []) tt) (map_among xs))
      (widen _ (λ r. among read_refusals held_refusals tt) (held_among m (section_of xs m) (load_of xs m))))

  by_first : (o : Option Refusal) → first_failing (read_tests xs) ≡ o → reading_by (record_length m) (section_of xs m) (load_of xs m) o ≡ read_of xs
  unfolding read_of
  by_first o e = rw e

  pub map_refused : {r : Refusal} → first_failing (map_tests xs) ≡ Some r → refused_reading r 0 ≡ read_of xs
  map_refused {r} e =
      let one = map_among xs in
      let unnamed : names_length (number_of r) ≡ false = ap not (is_true _ (rw e at one).some.member) in
      ap (λ (t : Bool). refused_reading r (cond t (record_length m) 0)) (sym unnamed) ∙ by_first (Some r) (first ∙ rw e)

  pub held_refused : {r : Refusal} → first_failing (map_tests xs) ≡ None → held ≡ Some r → refused_reading r (record_length m) ≡ read_of xs
  unfolding held_refusals
  held_refused {r} e f =
      let one = held_among m (section_of xs m) (load_of xs m) in
      let named : names_length (number_of r) ≡ true = is_true _ (passes names_length held_refusals tt (rw f at one).some) in
      ap (λ (t : Bool). refused_reading r (cond t (record_length m) 0)) (sym named) ∙ by_first (Some r) (first ∙ rw (e, f))

  pub none_refused : first_failing (map_tests xs) ≡ None → held ≡ None → accepted_reading (record_length m) (section_of xs m) (load_of xs m) ≡ read_of xs
  none_refused e f = by_first None (first ∙ rw (e, f))

pub refusal_is : (n : ℕ) (s : Section) (l : Load) (k : Option Refusal) → (reading_by n s l k).refusal ≡ number_or_0 k
unfolding refused_reading
refusal_is n s l None = refl
refusal_is n s l (Some r) = refl

pub read_refusal : (xs : List ℕ) → (read_of xs).refusal ≡ number_or_0 (first_failing (read_tests xs))
unfolding read_of
read_refusal xs = refusal_is (record_length (map_in xs)) (section_of xs (map_in xs)) (load_of xs (map_in xs)) (first_failing (read_tests xs))

-- what is read stands in sequence
no_number : (o : Option Refusal) → number_or_0 o ≡ 0 → o ≡ None
no_number None e = refl
no_number (Some r) e = absurd (omega (arith, number_above_0 r))

pub read_ordered : (xs : List ℕ) → (read_of xs).refusal ≡ 0 → ordered (layers_of (read_of xs).section) ≡ true
read_ordered xs e =
    let s = section_of xs (m xs) in
    let l = load_of xs (m xs) in
    let none = no_number (first_failing (read_tests xs)) (sym (read_refusal xs) ∙ e) in
    let both = both_none (first_failing (map_tests xs)) (held xs) (sym (first xs) ∙ none) in
    let content = (both_none (test FieldMissing (complete (m xs))) (tests_of s l) both.1).1 in
    let rest = test LayerSequence (ordered (layers_of s)) ∷ load_link_tests (links_of s) l in
    let after = (both_none (first_failing (section_tests (counted s))) (first_failing rest) (sym (first_of (section_tests (counted s)) rest) ∙ content)).1 in
    ap (λ (r : Reading). ordered (layers_of r.section)) (sym (none_refused xs both.0 both.1)) ∙ (test_passed LayerSequence (ordered (layers_of s)) _ after).0

pub refusal_small : (xs : List ℕ) → (read_of xs).refusal < 256
refusal_small xs = rw (read_refusal xs) (small (first_failing (read_tests xs)))
  where
    small : (o : Option Refusal) → number_or_0 o < 256
    small None = lit< tt
    small (Some r) = number_small r

-- ---- the length: where it is named, that of the record, which is there whole
pub record Named (xs : List ℕ) (r : Reading) : Type 0 where
  pub is : r.length ≡ record_length (map_in xs)
  pub whole : record_length (map_in xs) ≤ length xs

named : (a b c d : Bool) (n : ℕ) (s : Section) (l : Load) (k : Option Refusal) → names_length (by_answers a b c d n s l k).refusal ≡ true
    → ((by_answers a b c d n s l k).length ≡ n) × (c ≡ true)
unfolding refused_reading
named false b c d n s l k e = absurd (clash e refl)
named true false c d n s l k e = absurd (clash e refl)
named true true false d n s l k e = absurd (clash e refl)
named true true true false n s l k e = (refl, refl)
named true true true true n s l None e = (refl, refl)
named true true true true n s l (Some r) e = (rw e, refl)

pub read_named : (xs : List ℕ) → names_length (read_of xs).refusal ≡ true → Named xs (read_of xs)
unfolding read_of read_tests
read_named xs e =
    let m = map_in xs in
    let n =
    named (leb 4 (length xs)) (only_fields m) (leb (record_length m) (length xs)) (complete m) (record_length m)
    (section_of xs m) (load_of xs m) (tests_of (section_of xs m) (load_of xs m)) e in
    record { is = n.0; whole = leb-true (record_length m) (length xs) n.1 }

-- else it is 0
unnamed : (n : ℕ) (s : Section) (l : Load) (k : Option Refusal) → names_length (number_or_0 k) ≡ false → (reading_by n s l k).length ≡ 0
unfolding refused_reading
unnamed n s l None e = absurd (clash refl e)
unnamed n s l (Some r) e = rw e

read_unnamed : (xs : List ℕ) → names_length (read_of xs).refusal ≡ false → (read_of xs).length ≡ 0
unfolding read_of
read_unnamed xs e =
    let m = map_in xs in
    unnamed (record_length m) (section_of xs m) (load_of xs m) (first_failing (read_tests xs)) (ap names_length (sym (read_refusal xs)) ∙ e)

pub length_most : (xs : List ℕ) → (read_of xs).length ≤ length xs
length_most xs = go (names_length (read_of xs).refusal) refl
  where
    go : (t : Bool) → names_length (read_of xs).refusal ≡ t → (read_of xs).length ≤ length xs
    go true e = let n = read_named xs e in omega arith
    go false e = omega (arith, read_unnamed xs e)

-- a record that is read has the four fields that must stand
complete_long : (m : ℕ) → complete m ≡ true → 36 ≤ record_length m
unfolding complete complete_to
complete_long m e =
    let a = both_true (stands m 3) _ e in
    let b = both_true (stands m 2) _ a.1 in
    let c = both_true (stands m 1) _ b.1 in
    let d = both_true (stands m 0) true c.1 in
    omega (arith, offset_yes m 0 d.0, offset_yes m 1 c.0, offset_yes m 2 b.0, room m 3 (record_length m) (lit< tt) a.0 (omega arith))

read-complete : (a b c d : Bool) (n : ℕ) (s : Section) (l : Load) (k : Option Refusal) → (by_answers a b c d n s l k).refusal ≡ 0 → d ≡ true
unfolding refused_reading
read-complete false b c d n s l k e = absurd (omega arith)
read-complete true false c d n s l k e = absurd (omega arith)
read-complete true true false d n s l k e = absurd (omega arith)
read-complete true true true false n s l k e = absurd (omega arith)
read-complete true true true true n s l k e = refl

all_stand : (xs : List ℕ) → (read_of xs).refusal ≡ 0 → complete (map_in xs) ≡ true
unfolding read_of read_tests
all_stand xs e =
    let m = map_in xs in
    read-complete (leb 4 (length xs)) (only_fields m) (leb (record_length m) (length xs)) (complete m) (record_length m)
    (section_of xs m) (load_of xs m) (tests_of (section_of xs m) (load_of xs m)) e

pub read_long : (xs : List ℕ) → (read_of xs).refusal ≡ 0 → 36 ≤ (read_of xs).length
read_long xs e =
    let n = read_named xs (ap names_length e) in
    omega (arith, complete_long (map_in xs) (all_stand xs e))
