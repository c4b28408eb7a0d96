-- Read a record: document 01, "Read a record". Assumes nothing.
use Rattle.std.specs.Prelude.{ℕ, true, cond, List, [], ◌++◌, ◌≡◌, pos, take, Option, None, Some}
use Rattle.refusals.specs.declared.Refusal.{Refusal}
use Rattle.refusals.specs.Number.{number_of}
use Rattle.refusals.specs.Chain.{first_failing}
use Rattle.section.specs.Section.{no_links}
use Rattle.section.specs.declared.Section.{Section}
use Rattle.section.specs.declared.Load.{Load}
use Rattle.record.specs.declared.Reading.{Reading}
use Rattle.record.specs.Map.{record_length}
use Rattle.record.specs.Contents.{section_with, load_with, section_of, load_of}
use Rattle.record.specs.Refusals.{map_in, read_tests, names_length}

-- what is answered of a record of n bytes that is read
abbrev pub accepted_reading : ℕ → Section → Load → Reading
accepted_reading n s l = record { refusal = 0; length = n; section = s; load = l }

-- a refusal, with the length that it names, and zeros
unfoldable pub refused_reading : Refusal → ℕ → Reading
refused_reading r n =
    record { refusal = number_of r; length = n; section = section_with (λ bit. pos 0) no_links []; load = load_with (λ bit. pos 0) }

-- what is answered of a record of n bytes, by the first test that fails
abbrev pub reading_by : ℕ → Section → Load → Option Refusal → Reading
reading_by n s l None = accepted_reading n s l
reading_by n s l (Some r) = refused_reading r (cond (names_length (number_of r)) n 0)

unfoldable pub read_of : List ℕ → Reading
read_of xs = reading_by (record_length (map_in xs)) (section_of xs (map_in xs)) (load_of xs (map_in xs)) (first_failing (read_tests xs))

-- Bytes after the record are ignored: where a length is answered, r is also what is read of that many first bytes, whatever follows.
abbrev pub RestIgnored : List ℕ → Reading → Type 0
RestIgnored xs r = names_length r.refusal ≡ true → (ys : List ℕ) → read_of (take r.length xs ++ ys) ≡ r
