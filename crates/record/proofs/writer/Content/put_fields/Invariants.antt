-- The fields of the bits below k stand after the map, and nothing else has changed.
use mathlib.Core.Path.{◌≡◌}
use lib.ListN.{length}
use Rattle.record.specs.Bytes.{placed}
use Rattle.record.specs.Map.{offset}
use Rattle.record.specs.Fields.{field_of}
use Rattle.record.specs.Layout.{fields_to}
use Rattle.record.specs.Code.Content.{bytes_in}
use Rattle.record.proofs.writer.Content.put_fields.Given as goal

abbrev pub invariant-loop-k : goal.invariant-loop-k
invariant-loop-k l =
    record {
      at : l.at ≡ offset l.map l.k;
      long : length l.buffer ≡ length l.initial.buffer;
      written : l.buffer ≡ placed l.initial.buffer 4 (fields_to l.map (λ k. bytes_in l.self (field_of k)) l.k);
    }
