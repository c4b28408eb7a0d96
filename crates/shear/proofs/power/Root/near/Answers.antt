-- A guess that passes, where the next number does not, is the greatest.
use mathlib.Core.Path.{sym, ◌∙◌}
use native.Mathlib.Omega.{arith}
use Rattle.arith.proofs.Greatest.{greatest_between}
use Rattle.shear.specs.Code.Power.{power_at_most}
use Rattle.shear.proofs.Powers.{never_back}
use Rattle.shear.proofs.power.Root.near.Goals as goal

pub returns-then-not-passes : goal.returns-then-not-passes
returns-then-not-passes g c =
    let next = c.before in
    let this = next.before.before in
    let s = this.args.self.now in
    greatest_between (power_at_most g.row.E s.a s.y) (never_back g.row.E s.a s.y) (omega arith)
    (sym this.passes.ensures ∙ next.if-passes.true)
    (sym next.passes-then-passes.ensures ∙ c.if-not-passes.true)
