-- The tests in their sequence.
use mathlib.Core.Path.{◌≡◌, refl, sym, ap, ◌∙◌}
use mathlib.Core.Bool.{true}
use Prim.Native.Nat.{ℕ}
use lib.IntN.{pos, nat_abs}
use mir.Syntax.{w64}
use mir.Val.{SFits}
use borrow.Author.Rules.{rules}
use mir.Facts.{to_z-of_z}
use Rattle.std.specs.Prelude.{Ok, Err}
use Rattle.std.specs.Result.{result_err}
use Rattle.arith.specs.Integer.{in_range}
use Rattle.refusals.specs.Chain.{first_failing}
use Rattle.refusals.proofs.Exits.{passed, refused, returned, contained}
use Rattle.materials.specs.Answer.{materials_of}
use Rattle.section.specs.Refusals.{layer_tests, section_tests}
use Rattle.section.specs.Section.{counted, layers_of}
use Rattle.section.proofs.acceptance.test_section.Goals as goal
use Rattle.section.proofs.acceptance.test_section.Goals.{After-contains, After-contains-2, After-look_up, After-test_layers}

width_is : (c : After-contains) → c.contains.result ≡ in_range (pos 50) (pos 2000) c.args.s.now.width
width_is c = contained _ c.new.ensures.start c.new.ensures.end c.new.ensures.exhausted c.contains.ensures.value

height_is : (c : After-contains-2) → c.contains-2.result ≡ in_range (pos 50) (pos 2000) c.args.s.now.height
height_is c = contained _ c.new-2.ensures.start c.new-2.ensures.end c.new-2.ensures.exhausted c.contains-2.ensures.value

width_ok : (c : After-contains-2) → in_range (pos 50) (pos 2000) c.args.s.now.width ≡ true
width_ok c = sym (width_is (goal.at.After-contains-2 c).After-contains) ∙ passed _ c.unless.ensures c.in_ok-unless.was

height_ok : (c : After-look_up) → in_range (pos 50) (pos 2000) c.args.s.now.height ≡ true
height_ok c = sym (height_is (goal.at.After-look_up c).After-contains-2) ∙ passed _ c.unless-2.ensures c.in_ok-unless-2.was

pub returns-in_err-unless-clause-refusal : goal.returns-in_err-unless-clause-refusal
unfolding section_tests
returns-in_err-unless-clause-refusal c =
    let p = refused _ c.unless.ensures c.from_residual.result c.from_residual.ensures.1 c.in_err-unless.was in
    rw (p.1, sym (width_is (goal.at.returns-in_err-unless-clause-refusal c).After-contains) ∙ p.0) refl

pub returns-in_err-unless-2-clause-refusal : goal.returns-in_err-unless-2-clause-refusal
unfolding section_tests
returns-in_err-unless-2-clause-refusal c =
    let at = (goal.at.returns-in_err-unless-2-clause-refusal c).After-contains-2 in
    let p = refused _ c.unless-2.ensures c.from_residual-in_err-unless-2.result c.from_residual-in_err-unless-2.ensures.1 c.in_err-unless-2.was in
    rw (p.1, width_ok at, sym (height_is at) ∙ p.0) refl

pub returns-in_err-m-clause-refusal : goal.returns-in_err-m-clause-refusal
unfolding section_tests
returns-in_err-m-clause-refusal c =
    let at = (goal.at.returns-in_err-m-clause-refusal c).After-look_up in
    let w = width_ok (goal.at.After-look_up at).After-contains-2 in
    let e : materials_of c.args.s.now.grade ≡ Err _ = sym c.look_up.ensures.value ∙ c.in_err-m.was in
    ap result_err (returned c.from_residual-in_err-m.result c.from_residual-in_err-m.ensures.1) ∙ rw (w, height_ok at, e) refl

-- once the layers' tests have answered
module _ (c : After-test_layers) where
  abbrev looked : After-look_up
  looked = (goal.at.After-test_layers c).After-look_up

  known : materials_of c.args.s.now.grade ≡ Ok c.in_ok-m.m
  known = sym c.look_up.ensures.value ∙ c.in_ok-m.was

  by_them : first_failing (section_tests (counted c.args.s.now)) ≡ result_err c.test_layers.result
  unfolding section_tests
  by_them =
      let w = width_ok (goal.at.After-look_up looked).After-contains-2 in
      let fits : SFits w64 c.args.s.now.height = search rules in
      let h : c.unsigned_abs.result ≡ nat_abs c.args.s.now.height = c.unsigned_abs.ensures.value ∙ ap nat_abs (to_z-of_z fits) in
      rw (w, height_ok looked, known)
      (ap (λ (h : ℕ). first_failing (layer_tests h c.args.s.now.count (layers_of c.args.s.now))) (sym h) ∙ sym c.test_layers.ensures)

pub returns-in_err-test_layers-clause-refusal : goal.returns-in_err-test_layers-clause-refusal
returns-in_err-test_layers-clause-refusal c =
    let at = (goal.at.returns-in_err-test_layers-clause-refusal c).After-test_layers in
    ap result_err (returned c.from_residual-in_err-test_layers.result c.from_residual-in_err-test_layers.ensures.1)
    ∙ sym (ap result_err c.in_err-test_layers.was) ∙ sym (by_them at)

pub returns-clause-refusal : goal.returns-clause-refusal
returns-clause-refusal c =
    let at = (goal.at.returns-clause-refusal c).After-test_layers in
    sym (by_them at ∙ ap result_err c.in_ok-test_layers.was)
