-- The last of the tenths tried so far.
use Prim.Native.Nat.{◌≤◌}
use Rattle.links.proofs.Last.{Last}
use Rattle.links.proofs.Truss.crossing.Given as goal

abbrev pub invariant-loop-c : goal.invariant-loop-c
invariant-loop-c l = (10 ≤ l.c) × ((l.c ≤ 26) × Last l.steel l.concrete l.c l.last)
