-- The layers of the first j bits stand in the first places.
use mathlib.Core.Path.{◌≡◌}
use Prim.Native.Nat.{◌≤◌}
use lib.ListN.{length}
use Rattle.record.specs.Contents.{layers_to, filled}
use Rattle.record.proofs.reader.Mapped.layers.Given as goal

abbrev pub invariant-loop-j : goal.invariant-loop-j
invariant-loop-j l =
    record {
      few : l.count ≤ l.j;
      count : l.count ≡ length (layers_to l.self.bytes.now l.self.map l.j);
      places : l.places ≡ filled (layers_to l.self.bytes.now l.self.map l.j);
    }
