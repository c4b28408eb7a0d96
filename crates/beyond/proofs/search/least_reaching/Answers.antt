-- An interval that is skipped, and the end of the search: the load is read from its bits.
use mathlib.Core.Path.{sym, ap, ◌∙◌}
use native.Mathlib.Omega.{arith}
use mir.Facts.{to_z-of_z}
use Rattle.beyond.specs.Depth.{least_reaching, some_depth}
use Rattle.beyond.proofs.Intervals.{skipped, none_found}
use Rattle.beyond.proofs.search.least_reaching.Goals as goal

pub loop-a-preserved-then-short_of : goal.loop-a-preserved-then-short_of
loop-a-preserved-then-short_of c =
    skipped c.args.x.now c.args.layers.now _ (omega (arith, c.requires.bounded.materials.E-low)) c.loop-a.invariant c.loop-a-test.true
    (sym c.short_of.ensures ∙ c.if-short_of.true) c.min-b.ensures

pub returns : goal.returns
returns c =
    none_found c.args.x.now c.args.layers.now _ c.loop-a.invariant c.loop-a-test.false
    ∙ ap (λ z. some_depth (least_reaching c.args.x.now c.args.layers.now z)) (to_z-of_z c.ranges.n)
