-- At the end no layer is left.
use Prim.Native.Nat.{◌+◌}
use mathlib.Core.List.{[]}
use mathlib.Core.Path.{◌≡◌, ap, ◌∙◌}
use native.Mathlib.Omega.{arith}
use lib.IntN.{pos}
use lib.ListN.{drop}
use Rattle.std.proofs.lemmas.List.{drop_all}
use Rattle.beyond.specs.Code.Whole.{concrete_newtons, steel_newtons}
use Rattle.beyond.proofs.Bounds.{bound-whole}
use Rattle.beyond.proofs.search.Depths.bound.Goals as goal

pub returns : goal.returns
unfolding steel_newtons
returns c =
    let s = c.args.self.now in
    let none : drop c.loop-l.l-index s.layers.now ≡ [] = drop_all _ _ c.loop-l-test.false in
    let all : c.loop-l.sum ≡ concrete_newtons s.design.now s.b + steel_newtons s.design.now s.layers.now s.a s.b =
    omega (arith, rw none at c.loop-l.invariant.0) in
    (ap pos all ∙ bound-whole s.interval, omega (arith, c.loop-l.auto.l-index-end, c.loop-l.invariant.1, s.interval.usable.count_high))
