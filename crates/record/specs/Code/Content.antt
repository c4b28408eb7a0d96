-- What is written, as the code holds it: a section and a load, of which the documents' definitions speak. Assumes nothing.
use Rattle.std.specs.Prelude.{ℕ, Bool, List, ℤ}
use Rattle.section.specs.Section.{counted, links_of}
use Rattle.record.specs.declared.fields.Number.{Number}
use Rattle.record.specs.declared.fields.Field.{Field}
use Rattle.record.specs.declared.writer.Content.{Content}
use Rattle.record.specs.Layout as layout

abbrev pub value_in : Content → Number → ℤ
value_in c = layout.value_of (counted c.section.now) c.load.now

abbrev pub writes_in : Content → Field → Bool
writes_in c = layout.writes (counted c.section.now) (links_of c.section.now) c.load.now

abbrev pub bytes_in : Content → Field → List ℕ
bytes_in c = layout.field_bytes (counted c.section.now) (links_of c.section.now) c.load.now

abbrev pub map_written : Content → ℕ
map_written c = layout.map_of (counted c.section.now) (links_of c.section.now) c.load.now

abbrev pub fields_in : Content → List ℕ
fields_in c = layout.fields (counted c.section.now) (links_of c.section.now) c.load.now
