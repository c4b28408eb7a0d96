-- Each layer adds at most 20,000 mm² times 2,000 mm.
use Prim.Native.Nat.{◌*◌, ◌≤◌}
use Rattle.equilibrium.proofs.balance.Balance.first_moment.Given as goal

abbrev pub invariant-loop-l : goal.invariant-loop-l
invariant-loop-l l = l.sum ≤ 40000000 * l.l-index
