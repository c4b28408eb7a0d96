-- The equation by the exits of the code, and the other clauses from it.
use mathlib.Core.Path.{◌≡◌, sym, ap, ◌∙◌}
use Rattle.std.specs.Prelude.{Result}
use Rattle.std.specs.Result.{result_err}
use Rattle.refusals.specs.declared.Refusal.{Refusal}
use Rattle.refusals.specs.Chain.{first_failing}
use Rattle.refusals.proofs.Exits.{returned}
use Rattle.section.specs.declared.Section.{Section}
use Rattle.section.specs.declared.Links.{Links}
use Rattle.section.specs.declared.Load.{Load}
use Rattle.section.specs.Section.{counted, links_of}
use Rattle.section.specs.Refusals.{load_link_tests}
use Rattle.section.specs.Code.Accepted.{AcceptedOf}
use Rattle.section.proofs.Usable.{accepted_of, load-links-ok}
use Rattle.section.specs.Turned.{turned}
use Rattle.clauses.specs.declared.Report.{Report}
use Rattle.clauses.specs.Refusals.{check_tests}
use Rattle.clauses.specs.Check.{check_faces, check_of}
use Rattle.clauses.specs.Accuracy.{AccurateCheck}
use Rattle.clauses.specs.Best.{BestLinks}
use Rattle.clauses.proofs.Checking.{check_refused, load_refused, load_passed, check_clauses}
use Rattle.clauses.proofs.check_section.Goals as goal
use Rattle.clauses.proofs.check_section.Goals.{After-counted_links-links}

-- the clauses of an answer that is the definition's
clauses : (s : Section) (l : Load) {r : Result Report Refusal} → r ≡ check_of s l → record {
  value : r ≡ check_of s l;
  refusal : result_err r ≡ first_failing (check_tests (counted s) (links_of s) l);
  accurate : AccurateCheck (counted s) l r;
  best : BestLinks (counted s) (links_of s) r;
}
clauses s l e =
    let all = check_clauses s l e in
    record { value = all.0; refusal = all.1.0; accurate = all.1.1.0; best = all.1.1.1 }

-- of an accepted section
module _ (c : After-counted_links-links) where
  top : AcceptedOf c.args.s c.in_ok-top.top
  top = accepted_of c.args.s c.accept.ensures.value c.in_ok-top.ensures.layers c.in_ok-top.was

  links_are : first_failing (load_link_tests c.counted_links-links.result c.args.l) ≡ first_failing (load_link_tests (links_of c.args.s) c.args.l)
  links_are = ap (λ (k : Links). first_failing (load_link_tests k c.args.l)) c.counted_links-links.ensures

pub returns-in_err-top : goal.returns-in_err-top
returns-in_err-top c =
    clauses c.args.s c.args.l (returned _ c.from_residual.ensures.1 ∙ check_refused (counted c.args.s) (links_of c.args.s) c.args.l (sym c.in_err-top.ensures.value))

pub returns-in_err-test_load_and_links : goal.returns-in_err-test_load_and_links
returns-in_err-test_load_and_links c =
    let a = (goal.at.returns-in_err-test_load_and_links c).After-counted_links-links in
    let out = returned _ c.from_residual-in_err-test_load_and_links.ensures.1 in
    clauses c.args.s c.args.l
    (out ∙ load_refused (counted c.args.s) (links_of c.args.s) c.args.l (top a).ready (c.in_err-test_load_and_links.ensures ∙ links_are a))

pub invariant_of-checking : goal.invariant_of-checking
invariant_of-checking c =
    let ok = load-links-ok c.counted_links-links.result c.args.l (sym c.in_ok-test_load_and_links.ensures) in
    record { loaded = ok.load; linked = ok.links }

pub returns : goal.returns
returns c =
    let a = (goal.at.returns c).After-counted_links-links in
    let d = c.in_ok-top.top.design in
    clauses c.args.s c.args.l
    (c.report.ensures
    ∙ (λ i. check_faces d ((top a).layers_are i) (turned d.h ((top a).layers_are i)) (c.counted_links-links.ensures i) c.args.l)
    ∙ load_passed (counted c.args.s) (links_of c.args.s) c.args.l (top a).ready (sym (links_are a) ∙ sym c.in_ok-test_load_and_links.ensures))
