-- At each turn the next layer, at the end none.
use Rattle.std.proofs.Common.{rules, arith}
use Rattle.std.proofs.lemmas.List.{at_drop_more, at_drop_all}
use Rattle.section.specs.Section.{no_layer}
use Rattle.section.specs.Code.Accepted.{area_sum}
use Rattle.section.proofs.layers.steel_area.Goals as goal

pub loop-l-preserved : goal.loop-l-preserved
unfolding area_sum
loop-l-preserved c =
    let more = at_drop_more area_sum c.args.layers.now c.loop-l.l-index no_layer c.loop-l-test.true in
    (omega (arith, more, c.loop-l.invariant.0), search rules)

pub returns : goal.returns
unfolding area_sum
returns c =
    let none = at_drop_all area_sum c.args.layers.now c.loop-l.l-index c.loop-l-test.false in
    omega (arith, none, c.loop-l.invariant.0)
