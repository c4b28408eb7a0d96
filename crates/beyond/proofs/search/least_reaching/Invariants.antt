-- No depth below a reaches N. A turn raises a, or keeps it and lowers b.
use Prim.Native.Nat.{◌*◌, ◌+◌, ◌-◌}
use Rattle.beyond.proofs.Intervals.{Left}
use Rattle.beyond.proofs.search.least_reaching.Given as goal

abbrev pub invariant-loop-a : goal.invariant-loop-a
invariant-loop-a l = Left l.x l.layers l.n l.a l.b

abbrev pub decreases-loop-a : goal.decreases-loop-a
decreases-loop-a l = (30 * l.x.h + 1 - l.a) * 60001 + l.b
