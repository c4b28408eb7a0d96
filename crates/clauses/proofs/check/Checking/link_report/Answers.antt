-- Links that are absent, no tension layers, or the report of both.
use mathlib.Core.Bool.{false}
use mathlib.Core.Path.{◌≡◌, ◌∙◌}
use native.Mathlib.Omega.{arith}
use borrow.Author.Rules.{rules}
use borrow.Author.Tests.{ne_eqb, le-leb}
use mir.Syntax.{w64}
use mir.Val.{SFits}
use mir.Facts.{to_z-of_z}
use Rattle.arith.proofs.Test.{and_no}
use Rattle.section.specs.declared.Links.{Links}
use Rattle.section.specs.Section.{absent}
use Rattle.clauses.specs.Linked.{linked_report}
use Rattle.clauses.proofs.check.Checking.link_report.Goals as goal
use Rattle.clauses.proofs.check.Checking.link_report.Goals.{then-k-eq0-via-then-k-eq0, then-k-eq0-via-else-k-eq0+then-t-eq0}

-- they are present
present : (k : Links) → (k.present ≡ 0 → ⊥) → absent k ≡ false
present k h = ne_eqb k.present 0 h

pub returns-then-k-eq0 : goal.returns-then-k-eq0
unfolding linked_report
returns-then-k-eq0 c =
    elim c.then-k-eq0.branch [
      | then-k-eq0-via-then-k-eq0 w ↦ simp (w.if-k-eq0.true)
      | then-k-eq0-via-else-k-eq0+then-t-eq0 w ↦ simp (w.if-t-eq0.true, and_no)
    ]

pub returns : goal.returns
unfolding linked_report
returns c =
    let v : SFits w64 c.args.self.now.load.now.v = search rules in
    c.present_links.ensures
    ∙ simp (c.from.ensures, c.from-2.ensures, to_z-of_z v, present c.args.self.now.links.now c.if-k-eq0.false, le-leb 1 c.args.t.area (omega arith))
