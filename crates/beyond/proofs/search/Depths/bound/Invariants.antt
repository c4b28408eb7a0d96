-- The sum so far and what the layers left give is what all give.
use Prim.Native.Nat.{◌≤◌, ◌+◌, ◌*◌}
use mathlib.Core.Path.{◌≡◌}
use lib.ListN.{drop}
use Rattle.beyond.specs.Code.Whole.{concrete_newtons, steel_newtons}
use Rattle.beyond.proofs.search.Depths.bound.Given as goal

abbrev pub invariant-loop-l : goal.invariant-loop-l
invariant-loop-l l =
    let x = l.self.design.now in
    let ls = l.self.layers.now in
    (l.sum + steel_newtons x (drop l.l-index ls) l.self.a l.self.b ≡ concrete_newtons x l.self.b + steel_newtons x ls l.self.a l.self.b)
    × (l.sum ≤ 240000000 + 12000000 * l.l-index)
