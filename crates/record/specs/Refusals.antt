-- When Read a record and Write a record are turned down: document 01, and 02's tickets 3, 6, 8 and 10. The sequence of each is a list of
-- tests, in the documents' order; the first that fails gives the refusal. The section tests, the load tests and those of the links stand
-- on the page `Refusals` of the section. Assumes nothing.
use Rattle.std.specs.Prelude.{ℕ, Bool, not, List, [], ◌∷◌, ◌++◌, leb, length, Option}
use Rattle.refusals.specs.Chain.{test, is_number_of}
use Rattle.refusals.specs.declared.Refusal.{Refusal}
use Rattle.refusals.specs.declared.Refusal.TheVariants.{MapCut, UnknownField, RecordCut, FieldMissing, BufferTooShort, LayerSequence}
use Rattle.section.specs.Section.{Counted, counted, layers_of, links_of}
use Rattle.section.specs.Refusals.{section_tests, section_refusals, load_link_tests, load_link_refusals}
use Rattle.section.specs.declared.Links.{Links}
use Rattle.section.specs.declared.Section.{Section}
use Rattle.section.specs.declared.Load.{Load}
use Rattle.sequence.specs.Order.{ordered}
use Rattle.record.specs.Bytes.{number_at}
use Rattle.record.specs.Map.{record_length, only_fields, complete}
use Rattle.record.specs.Contents.{section_of, load_of}
use Rattle.record.specs.Layout.{map_of}

-- ---- Read a record, of the bytes xs; the first 4 are the map

abbrev pub map_in : List ℕ → ℕ
map_in xs = number_at xs 0 4

-- of its map
abbrev pub map_tests : List ℕ → List (Option Refusal)
map_tests xs =
    -- 20 fewer than 4 bytes
    test MapCut (leb 4 (length xs))
    -- 21 a bit stands that has no field: one of 26 to 31
    ∷ test UnknownField (only_fields (map_in xs))
    -- 22 fewer bytes than the map calls for
    ∷ test RecordCut (leb (record_length (map_in xs)) (length xs))
    ∷ []

-- of a section that is read, its links and a load
abbrev pub content_tests : Section → Load → List (Option Refusal)
content_tests s l =
    section_tests (counted s)
    -- 31 layers not in their sequence on disk: after 7, and in the reader only
    ++ (test LayerSequence (ordered (layers_of s))
    ∷ load_link_tests (links_of s) l)

-- of its fields, and of what they hold
abbrev pub held_tests : ℕ → Section → Load → List (Option Refusal)
held_tests m s l =
    -- 23 one of bits 0 to 3 absent
    test FieldMissing (complete m)
    ∷ content_tests s l

unfoldable pub read_tests : List ℕ → List (Option Refusal)
read_tests xs = map_tests xs ++ held_tests (map_in xs) (section_of xs (map_in xs)) (load_of xs (map_in xs))

-- the refusals that these tests have
abbrev pub read_refusals : List Refusal
read_refusals = MapCut ∷ UnknownField ∷ RecordCut ∷ FieldMissing ∷ (section_refusals ++ (LayerSequence ∷ load_link_refusals))

-- "the length is answered, for 20 to 22 as 0": of a refusal's number, 0 for none
abbrev pub names_length : ℕ → Bool
names_length k = not (is_number_of (MapCut ∷ UnknownField ∷ RecordCut ∷ []) k)

-- ---- Write a record, into the lent buffer

unfoldable pub write_tests : Counted → Links → Load → List ℕ → List (Option Refusal)
write_tests c links l buf =
    section_tests c
    ++ (load_link_tests links l
    -- 25 the lent buffer is shorter than the record
    ++ (test BufferTooShort (leb (record_length (map_of c links l)) (length buf))
    ∷ []))
