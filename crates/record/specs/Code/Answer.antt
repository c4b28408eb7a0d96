-- What is answered of a reading, as the code holds it: a record, or why there is none. Assumes nothing.
use Rattle.std.specs.Prelude.{Result, Ok, Err}
use Rattle.record.specs.declared.Reading.{Reading}
use Rattle.record.specs.declared.reader.Record.{Record}
use Rattle.record.specs.declared.reader.Refused.{Refused}
use Rattle.record.specs.Read.{accepted_reading, refused_reading}

abbrev pub reading_as : Result Record Refused → Reading
reading_as (Ok r) = accepted_reading r.length r.section r.load
reading_as (Err r) = refused_reading r.refusal r.length
