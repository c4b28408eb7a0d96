-- The records of an input and the text of their list: document 01, "The list". Assumes nothing.
use Rattle.std.specs.Prelude.{ℕ, zero, suc, ◌-◌, Bool, cond, List, [], ◌∷◌, ◌++◌, ◌≡◌, eqb, drop}
use Rattle.refusals.specs.Chain.{is_number_of}
use Rattle.refusals.specs.declared.Refusal.TheVariants.{MapCut, UnknownField, RecordCut}
use Rattle.clauses.specs.declared.Listed.{Listed}
use Rattle.clauses.specs.Check.{refused_listed, listed, check_of}
use Rattle.record.specs.declared.Reading.{Reading}
use Rattle.record.specs.Read.{read_of}
use Rattle.listing.specs.declared.records.Records.{Records}
use Rattle.listing.specs.Line.{line}

-- after 20, 21 or 22 the list ends
abbrev pub ends : ℕ → Bool
ends k = is_number_of (MapCut ∷ UnknownField ∷ RecordCut ∷ []) k

-- Records back to back: what is read at each place where one begins. The first `rest` bytes still belong to the record
-- before; a record's own first byte is passed with its line, and its other bytes after that. There is no further record
-- where the list ends, or the bytes.
unfoldable pub readings : ℕ → List ℕ → List Reading
readings rest [] = []
readings zero (x ∷ xs) =
    let r = read_of (x ∷ xs) in
    r ∷ cond (ends r.refusal) [] (readings (r.length - 1) xs)
readings (suc rest) (x ∷ xs) = readings rest xs

-- The same as a rule, law `goes_on`: what is read of the bytes, and then, unless the list ends, the readings of what follows the record.
abbrev pub GoesOn : List ℕ → Type 0
GoesOn xs = readings 0 xs ≡ read_of xs ∷ cond (ends (read_of xs).refusal) [] (readings 0 (drop (read_of xs).length xs))

-- The code walks over the records: what it has still to read, where `rest` is what follows the records that are read.
abbrev pub records_left : Records → List Reading
records_left s = readings 0 s.rest.now

-- what Check answers for a record that is read, its refusals too; a refused record has zeros and a 2 for each verdict
abbrev pub answer_of : Reading → Listed
answer_of r = cond (eqb r.refusal 0) (listed (check_of r.section r.load)) (refused_listed r.refusal)

-- a line for each record, with the numbers from k on
unfoldable pub lines : ℕ → List Reading → List ℕ
lines k [] = []
lines k (r ∷ rs) = line k (answer_of r) ++ lines (suc k) rs

-- the list of an input, without its first line: number from 1
unfoldable pub list_of : List ℕ → List ℕ
list_of xs = lines 1 (readings 0 xs)
