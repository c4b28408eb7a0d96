-- By the first test that fails: those of the map name no length.
use mathlib.Core.Path.{◌≡◌, sym, ap, ap₂, ◌∙◌}
use Prim.Native.Nat.{ℕ}
use mathlib.Core.List.{List}
use borrow.Author.Rules.{rules}
use Rattle.std.specs.Prelude.{None, Ok}
use Rattle.std.specs.Result.{result_err}
use Rattle.refusals.specs.Chain.{first_failing}
use Rattle.refusals.proofs.Exits.{returned, goes_on}
use Rattle.record.specs.Map.{record_length}
use Rattle.record.specs.Contents.{section_of, load_of}
use Rattle.record.specs.Refusals.{map_in, map_tests, held_tests}
use Rattle.record.specs.Read.{accepted_reading, refused_reading, read_of}
use Rattle.record.specs.Code.Answer.{reading_as}
use Rattle.record.proofs.Named.{leaves, either_way}
use Rattle.record.proofs.Readings.{map_refused, held_refused, none_refused}
use Rattle.record.proofs.reader.record_in.Goals as goal
use Rattle.record.proofs.reader.record_in.Goals.{After-held}

pub returns-in_err-mapped : goal.returns-in_err-mapped
returns-in_err-mapped c =
    let xs = c.args.bytes.now in
    let r = c.in_err-mapped.field-0.0 in
    let x = leaves _ c.new.result c.map_err.result 0 c.map_err.ensures.cases (λ e r k. search rules) c.in_err-mapped.was in
    ap reading_as (returned _ c.from_residual.ensures.1) ∙ ap (refused_reading r.refusal) x.1
    ∙ map_refused xs (sym c.new.ensures.refusal ∙ ap result_err x.0)

-- the bits that the map names, and the tests of what they hold
module _ (c : After-held) where
  abbrev xs : List ℕ
  xs = c.args.bytes.now

  mapped_is : c.new.result ≡ Ok c.in_ok-mapped.mapped
  mapped_is = goes_on _ c.new.result c.map_err.result c.map_err.ensures.cases c.in_ok-mapped.was

  same : (c.in_ok-mapped.mapped.bytes.now ≡ xs) × (c.in_ok-mapped.mapped.map ≡ map_in xs)
  same = rw mapped_is at c.new.ensures.ok

  map_passed : first_failing (map_tests xs) ≡ None
  map_passed = sym c.new.ensures.refusal ∙ ap result_err mapped_is

  length_is : c.record_length-length.result ≡ record_length (map_in xs)
  length_is = c.record_length-length.ensures ∙ ap record_length same.1

  held_are : first_failing (held_tests (map_in xs) (section_of xs (map_in xs)) (load_of xs (map_in xs))) ≡ result_err c.held.result
  held_are = sym (c.held.ensures.refusal ∙ (λ i. let m = same.1 i in let bytes = same.0 i in first_failing (held_tests m (section_of bytes m) (load_of bytes m))))

pub returns : goal.returns
returns c =
    let k = (goal.at.returns c).After-held in
    let n = c.record_length-length.result in
    either_way _ c.held.result c.map_err-2.result n c.map_err-2.ensures.cases (λ e r k. search rules) (λ y. reading_as y ≡ read_of (xs k))
    (λ r was.
    let length = (rw was at c.held.ensures.length) ∙ ap record_length (same k).1 in
    let section = (rw was at c.held.ensures.section) ∙ ap₂ section_of (same k).0 (same k).1 in
    let load = (rw was at c.held.ensures.load) ∙ ap₂ load_of (same k).0 (same k).1 in
    (λ i. accepted_reading (length i) (section i) (load i)) ∙ none_refused (xs k) (map_passed k) (held_are k ∙ ap result_err was))
    (λ e was. ap (refused_reading e) (length_is k) ∙ held_refused (xs k) (map_passed k) (held_are k ∙ ap result_err was))
