-- The section tests, then those of the load and the links.
use mathlib.Core.Path.{refl, sym, ap, ◌∙◌}
use Rattle.std.specs.Result.{result_err}
use Rattle.refusals.proofs.Chain.{first_of}
use Rattle.refusals.proofs.Exits.{returned}
use Rattle.section.specs.declared.Links.{Links}
use Rattle.refusals.specs.Chain.{first_failing}
use Rattle.section.specs.Section.{counted, links_of}
use Rattle.section.specs.Refusals.{section_tests, load_link_tests}
use Rattle.section.proofs.acceptance.test_record.Goals as goal

pub returns-in_err-accept : goal.returns-in_err-accept
returns-in_err-accept c =
    let a = c.args in
    let e = sym c.accept.ensures.refusal ∙ ap result_err c.in_err-accept.was in
    ap result_err (returned c.from_residual.result c.from_residual.ensures.1)
    ∙ sym (first_of (section_tests (counted a.s.now)) (load_link_tests (links_of a.s.now) a.l.now) ∙ rw e refl)

pub returns : goal.returns
returns c =
    let a = c.args in
    let e = sym c.accept.ensures.refusal ∙ ap result_err c.in_ok-accept.was in
    c.test_load_and_links.ensures ∙ ap (λ (k : Links). first_failing (load_link_tests k a.l.now)) c.counted_links.ensures
    ∙ sym (first_of (section_tests (counted a.s.now)) (load_link_tests (links_of a.s.now) a.l.now) ∙ rw e refl)
