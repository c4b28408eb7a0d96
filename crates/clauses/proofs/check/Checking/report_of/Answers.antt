-- Each number and verdict from its callee.
use mathlib.Core.Path.{◌∙◌}
use native.Mathlib.Omega.{arith}
use borrow.Author.Rules.{rules}
use mir.Syntax.{w64}
use mir.Val.{SFits}
use mir.Facts.{to_z-of_z}
use Rattle.section.specs.Code.Accepted.{layers_in}
use Rattle.equilibrium.proofs.Sizes.{area-high}
use Rattle.clauses.specs.Check.{report_of}
use Rattle.verdicts.proofs.Layers.{counts, area_is}
use Rattle.clauses.proofs.check.Checking.report_of.Goals as goal

pub tension_reinforcement-t-requires : goal.tension_reinforcement-t-requires
tension_reinforcement-t-requires c =
    let a = c.args.self.now.face.now in
    rw c.layers.ensures.all (rw c.layers.ensures.value (counts (layers_in a) a.usable))

pub most_verdict-requires : goal.most_verdict-requires
most_verdict-requires c =
    let a = c.args.self.now.face.now in
    (omega (arith, c.steel_area.ensures, area-high a.usable), (a.usable.bounded.b-high, a.usable.bounded.h-high))

pub returns : goal.returns
unfolding report_of
returns c =
    let n : SFits w64 c.args.self.now.load.now.n = search rules in
    let v : SFits w64 c.args.self.now.load.now.v = search rules in
    let mrd : SFits w64 c.args.face.mrd = search rules in
    simp (
      c.tension_reinforcement-t.ensures.area,
      c.tension_reinforcement-t.ensures.depth,
      c.layers.ensures.value,
      c.steel_area.ensures ∙ area_is (layers_in c.args.self.now.face.now),
      c.resistance-vrd.ensures,
      c.link_report-linked.ensures,
      c.depth_verdict.ensures,
      c.shear_verdict.ensures,
      c.least_verdict.ensures,
      c.most_verdict.ensures,
      to_z-of_z n,
      to_z-of_z v,
      to_z-of_z mrd,
    )
