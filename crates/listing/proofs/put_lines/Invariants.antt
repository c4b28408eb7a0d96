-- Writing the lines of the records that are left finishes the list.
use Prim.Native.Nat.{◌+◌}
use Rattle.std.specs.Iterator.Adapters.{enumerate_source, enumerate_count}
use Rattle.listing.specs.Records.{list_of, lines, records_left}
use Rattle.listing.proofs.Finishing.{Left}
use Rattle.listing.proofs.put_lines.Given as goal

abbrev pub invariant-loop-before : goal.invariant-loop-before
invariant-loop-before l =
    Left l.initial.out 0 (list_of l.input) l.out l.at (lines (enumerate_count l.before-iterator + 1) (records_left (enumerate_source l.before-iterator)))
