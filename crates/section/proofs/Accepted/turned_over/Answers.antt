-- At each turn the next place, at the end all sixteen.
use Rattle.std.proofs.Common.{rules, arith}
use Rattle.std.proofs.lemmas.List.Edits.{map_over_more}
use mathlib.Core.Path.{◌≡◌}
use lib.ListN.{take}
use Rattle.section.specs.Turned.{turned_layer, turned}
use Rattle.section.specs.Code.Accepted.{layers_in}
use Rattle.section.proofs.Turned.{usable_turned, turned_places}
use Rattle.section.proofs.Accepted.turned_over.Goals as goal
use Rattle.section.proofs.Accepted.turned_over.Goals.{After-loop-l}

pub loop-l-preserved : goal.loop-l-preserved
loop-l-preserved c = search (rules, map_over_more (turned_layer c.args.self.now.design.h))

module _ (c : After-loop-l) where
  all : take c.args.self.now.count c.loop-l.l-items ≡ turned c.args.self.now.design.h (layers_in c.args.self.now)
  all =
      let x = c.args.self.now in
      turned_places x.design.h x.count c.loop-l.l-index x.layers (omega (arith, c.loop-l-test.false, c.loop-l-test.array_long)) c.loop-l.invariant

pub invariant_of-result : goal.invariant_of-result
invariant_of-result c =
    record { usable = rw (all (goal.at.invariant_of-result c).After-loop-l) (usable_turned (layers_in c.args.self.now) c.args.self.now.usable) }

pub returns-clause-layers : goal.returns-clause-layers
returns-clause-layers c = all (goal.at.returns-clause-layers c).After-loop-l
