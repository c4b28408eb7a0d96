-- N as it is read.
use mathlib.Core.Path.{ap, ◌∙◌}
use borrow.Author.Rules.{rules}
use mir.Syntax.{w64}
use mir.Val.{SFits}
use mir.Facts.{to_z-of_z}
use Rattle.arith.proofs.Machine.{result}
use Rattle.equilibrium.specs.Code.Whole.{rest_at}
use Rattle.equilibrium.proofs.balance.Balance.rest.Goals as goal

pub returns : goal.returns
returns c =
    let b = c.args.self.now in
    let fits : SFits w64 b.n = search rules in
    result c.rest_of.type_inv (c.rest_of.ensures ∙ ap (rest_at b.design.now b.steel) (to_z-of_z fits))
