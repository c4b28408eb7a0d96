-- The load tests, then those of the links.
use mathlib.Core.Path.{refl, sym, ap, ◌∙◌}
use Rattle.std.specs.Result.{result_err}
use Rattle.refusals.proofs.Chain.{first_of}
use Rattle.refusals.proofs.Exits.{returned}
use Rattle.section.specs.Refusals.{load_tests, link_tests}
use Rattle.section.proofs.acceptance.test_load_and_links.Goals as goal

pub returns-in_err-test_load : goal.returns-in_err-test_load
returns-in_err-test_load c =
    let e = sym c.test_load.ensures ∙ ap result_err c.in_err-test_load.was in
    ap result_err (returned c.from_residual.result c.from_residual.ensures.1)
    ∙ sym (first_of (load_tests c.args.l.now) (link_tests c.args.k.now c.args.l.now) ∙ rw e refl)
