-- What is done is what the writer took.
use Rattle.std.proofs.Common.{length, ◌≡◌, ◌-◌, ◌≤◌, take, drop}
use Rattle.std.specs.Io.KnownBytes.{Appends}
use Rattle.check_list.proofs.write_whole.Given as goal

abbrev pub invariant-loop-left : goal.invariant-loop-left
invariant-loop-left g l =
    record {
      in_range : length l.left ≤ length l.bytes;
      rest : l.left ≡ drop (length l.bytes - length l.left) l.bytes;
      wrote : Appends (g.W.Write.contents l.initial.writer) (g.W.Write.contents l.writer) (take (length l.bytes - length l.left) l.bytes);
    }

abbrev pub decreases-loop-left : goal.decreases-loop-left
decreases-loop-left g l = length l.left
