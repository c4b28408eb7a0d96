-- The test 23, of the map alone, the section tests, 31, and those of the load and the links.
use mathlib.Core.Path.{◌≡◌, refl, sym, ap, ◌∙◌}
use mathlib.Core.Bool.{true}
use mathlib.Core.List.{◌∷◌}
use Prim.Native.Nat.{ℕ}
use Rattle.std.specs.Prelude.{Option}
use Rattle.std.specs.Result.{result_err}
use Rattle.std.specs.Option.{option_or}
use Rattle.refusals.specs.declared.Refusal.{Refusal}
use Rattle.refusals.specs.declared.Refusal.TheVariants.{LayerSequence}
use Rattle.refusals.specs.Chain.{test, first_failing}
use Rattle.refusals.proofs.Chain.{first_of}
use Rattle.refusals.proofs.Exits.{passed, refused, returned}
use Rattle.section.specs.declared.Links.{Links}
use Rattle.section.specs.declared.Section.{Section}
use Rattle.section.specs.declared.Load.{Load}
use Rattle.section.specs.Section.{counted, layers_of, links_of}
use Rattle.section.specs.Refusals.{section_tests, load_link_tests}
use Rattle.sequence.specs.Order.{ordered}
use Rattle.record.specs.declared.reader.Record.{Record}
use Rattle.record.specs.Map.{complete}
use Rattle.record.specs.Contents.{section_of, load_of}
use Rattle.record.specs.Refusals.{held_tests}
use Rattle.record.proofs.reader.Mapped.held.Goals as goal
use Rattle.record.proofs.reader.Mapped.held.Goals.{After-accept, After-test_load_and_links}

-- where all fields stand that must, by the answers of the tests
held : (m : ℕ) (s : Section) (l : Load) → complete m ≡ true
    → first_failing (held_tests m s l) ≡ option_or (first_failing (section_tests (counted s)))
    (option_or (test LayerSequence (ordered (layers_of s))) (first_failing (load_link_tests (links_of s) l)))
held m s l e = rw e (first_of (section_tests (counted s)) (test LayerSequence (ordered (layers_of s)) ∷ load_link_tests (links_of s) l))

module _ (c : After-accept) where
  abbrev m : ℕ
  m = c.args.self.now.map

  abbrev r : Record
  r = c.record-record.result

  complete_is : complete m ≡ true
  complete_is = sym c.is_complete.ensures ∙ passed _ c.unless.ensures c.in_ok-unless.was

  -- the tests, by the answers of those after 23
  held_are : first_failing (held_tests m (section_of c.args.self.now.bytes.now m) (load_of c.args.self.now.bytes.now m))
      ≡ option_or (first_failing (section_tests (counted r.section)))
      (option_or (test LayerSequence (ordered (layers_of r.section))) (first_failing (load_link_tests (links_of r.section) r.load)))
  held_are =
      let of = c.record-record.ensures in
      sym (λ i. first_failing (held_tests m (of.section i) (of.load i))) ∙ held m r.section r.load complete_is

  -- the section tests, by what `accept` answered
  first_is : {o : Option Refusal} → result_err c.accept.result ≡ o → first_failing (section_tests (counted r.section)) ≡ o
  first_is e = sym c.accept.ensures.refusal ∙ e

pub returns-in_err-accept-clause-refusal : goal.returns-in_err-accept-clause-refusal
returns-in_err-accept-clause-refusal c =
    let a = (goal.at.returns-in_err-accept-clause-refusal c).After-accept in
    ap result_err (returned c.from_residual-in_err-accept.result c.from_residual-in_err-accept.ensures.1)
    ∙ sym (held_are a ∙ rw (first_is a (ap result_err c.in_err-accept.was)) refl)

pub returns-in_err-unless-2-clause-refusal : goal.returns-in_err-unless-2-clause-refusal
returns-in_err-unless-2-clause-refusal c =
    let a = (goal.at.returns-in_err-unless-2-clause-refusal c).After-accept in
    let x = refused _ c.unless-2.ensures _ c.from_residual-in_err-unless-2.ensures.1 c.in_err-unless-2.was in
    rw x.1 (sym (held_are a ∙ rw (first_is a (ap result_err c.in_ok-accept.was), sym c.in_sequence.ensures ∙ x.0) refl))

-- once 31 has passed, the tests of the load and the links answer
module _ (c : After-test_load_and_links) where
  abbrev a : After-accept
  a = (goal.at.After-test_load_and_links c).After-accept

  by_them : result_err c.test_load_and_links.result
      ≡ first_failing (held_tests (m a) (section_of c.args.self.now.bytes.now (m a)) (load_of c.args.self.now.bytes.now (m a)))
  by_them =
      let up = passed _ c.unless-2.ensures c.in_ok-unless-2.was in
      c.test_load_and_links.ensures ∙ ap (λ (k : Links). first_failing (load_link_tests k (r a).load)) c.counted_links.ensures
      ∙ sym (held_are a ∙ rw (first_is a (ap result_err c.in_ok-accept.was), sym c.in_sequence.ensures ∙ up) refl)

pub returns-in_err-test_load_and_links-clause-refusal : goal.returns-in_err-test_load_and_links-clause-refusal
returns-in_err-test_load_and_links-clause-refusal c =
    let x = (goal.at.returns-in_err-test_load_and_links-clause-refusal c).After-test_load_and_links in
    ap result_err (returned c.from_residual-in_err-test_load_and_links.result c.from_residual-in_err-test_load_and_links.ensures.1)
    ∙ sym (ap result_err c.in_err-test_load_and_links.was) ∙ by_them x

pub returns-clause-refusal : goal.returns-clause-refusal
returns-clause-refusal c =
    let x = (goal.at.returns-clause-refusal c).After-test_load_and_links in
    sym (ap result_err c.in_ok-test_load_and_links.was) ∙ by_them x
