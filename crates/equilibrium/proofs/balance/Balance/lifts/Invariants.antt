-- Each sum so far, with what is left, is the sum over all.
use Prim.Native.Nat.{◌+◌}
use mathlib.Core.Path.{◌≡◌}
use lib.ListN.{drop}
use Rattle.equilibrium.specs.Code.Whole.{lift_sum}
use Rattle.equilibrium.proofs.balance.Balance.lifts.Given as goal

abbrev pub invariant-loop-l : goal.invariant-loop-l
invariant-loop-l l =
    let x = l.self.design.now in
    let ls = l.self.layers.now in
    (l.at + lift_sum x (drop l.l-index ls) l.v ≡ lift_sum x ls l.v)
    × (l.next + lift_sum x (drop l.l-index ls) (l.v + 1) ≡ lift_sum x ls (l.v + 1))
