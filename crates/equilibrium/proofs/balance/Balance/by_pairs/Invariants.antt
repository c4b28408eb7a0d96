-- The greatest is one of the candidates, whatever is tried.
use Prim.Native.Nat.{◌-◌, ◌*◌, ◌≤◌}
use Rattle.arith.proofs.Greatest.{Candidates}
use Rattle.equilibrium.specs.Refusals.{carries}
use Rattle.equilibrium.proofs.balance.Balance.by_pairs.Given as goal

abbrev pub invariant-loop-lo : goal.invariant-loop-lo
invariant-loop-lo l =
    let x = l.self.design.now in
    (1 ≤ l.lo) × Candidates (carries x l.self.layers.now l.self.n) (10 * x.h) l.lo l.hi

abbrev pub decreases-loop-lo : goal.decreases-loop-lo
decreases-loop-lo l = l.hi - l.lo
