-- 33, or Check's answer of the section in hand with the layer at its place.
use mathlib.Core.Path.{◌≡◌, sym, ap, subst, ◌∙◌}
use Prim.Native.Nat.{◌≤◌}
use lib.ListN.{length}
use borrow.Author.Rules.{rules}
use borrow.Author.Tests.{leb-true}
use Rattle.std.specs.Result.{result_err}
use Rattle.refusals.proofs.Exits.{passed}
use Rattle.section.specs.declared.Section.{Section}
use Rattle.section.specs.Section.{counted, links_of}
use Rattle.section.specs.Code.Altered.{with_layer}
use Rattle.clauses.specs.Check.{check_of}
use Rattle.clauses.specs.Accuracy.{AccurateCheck}
use Rattle.clauses.specs.Best.{BestLinks}
use Rattle.clauses.proofs.Trial.{Answered, trial_at, trial_refusal, tried}
use Rattle.clauses.proofs.try_layer.Goals as goal

pub returns : goal.returns
returns c =
    let s = c.args.s in
    let l = c.args.l in
    let at : c.args.place ≤ s.count = leb-true c.args.place s.count (passed _ c.unless.ensures c.in_ok-unless.was) in
    let places : length s.layers ≡ 16 = search rules in
    let held : c.with_layer.result ≡ with_layer c.args.place c.args.layer s = c.with_layer.ensures in
    let checked : Answered (counted (with_layer c.args.place c.args.layer s)) (links_of s) l c.check_section.result = record {
      value = c.check_section.ensures.value ∙ ap (λ (t : Section). check_of t l) held;
      accurate = subst (λ (t : Section). AccurateCheck (counted t) l c.check_section.result) held c.check_section.ensures.accurate;
      best = subst (λ (t : Section). BestLinks (counted t) (links_of t) c.check_section.result) held c.check_section.ensures.best;
    } in
    let a = tried s l c.args.place c.args.layer places at checked in
    let value = a.value ∙ sym (trial_at (counted s) (links_of s) l c.args.place c.args.layer at) in
    record {
      value = value;
      refusal = ap result_err value ∙ trial_refusal (counted s) (links_of s) l c.args.place c.args.layer;
      accurate = a.accurate;
      best = a.best;
    }
