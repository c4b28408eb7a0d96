-- What follows from the first test that fails, and from the materials.
use mathlib.Core.Path.{◌≡◌, sym, ap, ap₂, ◌∙◌}
use Prim.Native.Nat.{ℕ}
use lib.IntN.{nat_abs}
use mir.Syntax.{w64}
use mir.Val.{SFits}
use borrow.Author.Rules.{rules}
use Rattle.std.proofs.lemmas.Result.{IfOk-at_ok}
use mir.Facts.{to_z-of_z}
use Rattle.std.specs.Prelude.{Ok}
use Rattle.std.specs.Result.{result_err}
use Rattle.refusals.proofs.Exits.{returned}
use Rattle.section.specs.declared.Design.{Design}
use Rattle.section.specs.Section.{counted}
use Rattle.section.specs.Refusals.{accepted}
use Rattle.section.specs.Code.Accepted.{design_in}
use Rattle.section.specs.Code.Usable.{SectionPromise}
use Rattle.section.proofs.Usable.{refused_is, ready_is, section_promise}
use Rattle.section.proofs.acceptance.accept.Goals as goal
use Rattle.section.proofs.acceptance.accept.Goals.{After-from_residual, After-unsigned_abs-2}

refused : (c : After-from_residual) → design_in c.from_residual.result ≡ accepted (counted c.args.s.now)
refused c =
    ap design_in (returned c.from_residual.result c.from_residual.ensures.1)
    ∙ refused_is (counted c.args.s.now) (sym c.test_section.ensures.refusal ∙ ap result_err c.in_err-m.was)

pub returns-in_err-m-clause-value : goal.returns-in_err-m-clause-value
returns-in_err-m-clause-value c = refused (goal.at.returns-in_err-m-clause-value c).After-from_residual

pub returns-in_err-m-clause-promised : goal.returns-in_err-m-clause-promised
returns-in_err-m-clause-promised c = rw (refused (goal.at.returns-in_err-m-clause-promised c).After-from_residual) (section_promise c.args.s.now)

module _ (c : After-unsigned_abs-2) where
  abbrev design : Design
  design = record { b = c.unsigned_abs.result; h = c.unsigned_abs-2.result; m = c.in_ok-m.m }

  ready : Ok design ≡ accepted (counted c.args.s.now)
  ready =
      let fits_b : SFits w64 c.args.s.now.width = search rules in
      let fits_h : SFits w64 c.args.s.now.height = search rules in
      ap₂ (λ (b h : ℕ). Ok record { b = b; h = h; m = c.in_ok-m.m }) (c.unsigned_abs.ensures.value ∙ ap nat_abs (to_z-of_z fits_b))
      (c.unsigned_abs-2.ensures.value ∙ ap nat_abs (to_z-of_z fits_h))
      ∙ ready_is (counted c.args.s.now) (sym (sym (ap result_err c.in_ok-m.was) ∙ c.test_section.ensures.refusal))
      (IfOk-at_ok _ c.in_ok-m.was c.test_section.ensures.materials)

  promise : SectionPromise (counted c.args.s.now) design
  promise = rw (← ready) at (section_promise c.args.s.now)

pub invariant_of-result : goal.invariant_of-result
invariant_of-result c = record { usable = (promise (goal.at.invariant_of-result c).After-unsigned_abs-2).usable }

pub returns-clause-value : goal.returns-clause-value
returns-clause-value c = ready (goal.at.returns-clause-value c).After-unsigned_abs-2

pub returns-clause-promised : goal.returns-clause-promised
returns-clause-promised c = promise (goal.at.returns-clause-promised c).After-unsigned_abs-2
