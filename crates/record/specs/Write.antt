-- Write a record: document 01, "Write a record", and 02's ticket 6. Assumes nothing.
use Rattle.std.specs.Prelude.{ℕ, List, ◌++◌, length, take, drop, Option, None, Some, Result, Ok, Err}
use Rattle.refusals.specs.declared.Refusal.{Refusal}
use Rattle.refusals.specs.Number.{number_of}
use Rattle.refusals.specs.Chain.{first_failing}
use Rattle.section.specs.Section.{Counted}
use Rattle.section.specs.declared.Links.{Links}
use Rattle.section.specs.declared.Load.{Load}
use Rattle.sequence.specs.Order.{sequenced_layers}
use Rattle.record.specs.declared.Written.{Written}
use Rattle.record.specs.Map.{record_length}
use Rattle.record.specs.Layout.{map_of, record_of}
use Rattle.record.specs.Refusals.{write_tests}

-- a success answers the length, a refusal its number
abbrev pub written_as : Result ℕ Refusal → Written
written_as (Ok n) = record { refusal = 0; length = n }
written_as (Err r) = record { refusal = number_of r; length = 0 }

-- by the first test that fails: a success answers the length and changes that many first bytes and no others; a refusal changes none
abbrev pub written_by : ℕ → Option Refusal → Written
written_by n None = written_as (Ok n)
written_by n (Some r) = written_as (Err r)

abbrev pub changed_by : List ℕ → List ℕ → Option Refusal → List ℕ
changed_by bytes buf None = bytes ++ drop (length bytes) buf
changed_by bytes buf (Some r) = buf

abbrev pub written_of : Counted → Links → Load → List ℕ → Written
written_of c links l buf = written_by (record_length (map_of c links l)) (first_failing (write_tests c links l buf))

-- the record that is written: the layers by rising depth, and equal depths by rising area
abbrev pub record_written : Counted → Links → Load → List ℕ
record_written c links l = record_of (sequenced_layers c) links l

abbrev pub buffer_of : Counted → Links → Load → List ℕ → List ℕ
buffer_of c links l buf = changed_by (record_written c links l) buf (first_failing (write_tests c links l buf))

-- the bytes of a write: as many first bytes of the buffer afterwards as it answers
abbrev pub bytes_written : Counted → Links → Load → List ℕ → List ℕ
bytes_written c links l buf = take (written_of c links l buf).length (buffer_of c links l buf)
