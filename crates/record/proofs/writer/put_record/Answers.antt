-- By the first test that fails, and by the bytes that are put where none does.
use mathlib.Core.Path.{◌≡◌, sym, ap, ◌∙◌}
use mathlib.Core.Bool.{Bool, false}
use mathlib.Core.List.{List}
use Prim.Native.Nat.{ℕ}
use native.Mathlib.Omega.{arith}
use borrow.Author.Tests.{leb-true}
use lib.Dec.{leb}
use lib.ListN.{length}
use Rattle.std.specs.Prelude.{None, Ok, Err}
use Rattle.std.specs.Result.{result_err}
use Rattle.refusals.specs.declared.Refusal.{Refusal}
use Rattle.refusals.specs.declared.Refusal.TheVariants.{BufferTooShort}
use Rattle.refusals.proofs.Exits.{passed, refused, returned}
use Rattle.section.specs.Section.{counted, links_of}
use Rattle.section.proofs.Usable.{all_passed}
use Rattle.sequence.specs.Order.{sequenced_layers}
use Rattle.record.specs.Bytes.{placed}
use Rattle.record.specs.Map.{record_length}
use Rattle.record.specs.Layout.{map_of, fields}
use Rattle.record.specs.Write.{written_as}
use Rattle.record.proofs.Digits.{to_four}
use Rattle.record.proofs.Passed.{asked_of}
use Rattle.record.proofs.Writing.{map_sequenced}
use Rattle.record.proofs.Writes.{Answered, by_tests, by_length, done}
use Rattle.record.proofs.writer.put_record.Goals as goal
use Rattle.record.proofs.writer.put_record.Goals.{After-test_record, After-unless}

-- the section, the load and the links are refused, or pass
module _ (c : After-test_record) where
  answered : {r : Refusal} → c.test_record.result ≡ Err r
      → Answered (counted c.args.s.now) (links_of c.args.s.now) c.args.l.now c.args.buffer.now (Err r) c.args.buffer.now
  answered was = by_tests (counted c.args.s.now) (links_of c.args.s.now) c.args.l.now c.args.buffer.now (sym c.test_record.ensures ∙ ap result_err was)

  none_fails : {x : Unit {0}} → c.test_record.result ≡ Ok x → asked_of c.args.s.now c.args.l.now ≡ None
  none_fails was = sym c.test_record.ensures ∙ ap result_err was

pub returns-in_err-test_record-clause-value : goal.returns-in_err-test_record-clause-value
returns-in_err-test_record-clause-value c =
    ap written_as (returned _ c.from_residual.ensures.1)
    ∙ (answered (goal.at.returns-in_err-test_record-clause-value c).After-test_record c.in_err-test_record.was).value

pub returns-in_err-test_record-clause-lent : goal.returns-in_err-test_record-clause-lent
returns-in_err-test_record-clause-lent c =
    (answered (goal.at.returns-in_err-test_record-clause-lent c).After-test_record c.in_err-test_record.was).lent

pub invariant_of-content : goal.invariant_of-content
invariant_of-content c =
    let s = c.args.s.now in
    let e = none_fails (goal.at.invariant_of-content c).After-test_record c.in_ok-test_record.was in
    record { few = rw c.sequenced-section.ensures.value (all_passed s (links_of s) c.args.l.now e).section.usable.count_high }

-- the map and the length are those of the record, and its test
module _ (c : After-unless) where
  map_is : c.map-map.result ≡ map_of (sequenced_layers (counted c.args.s.now)) (links_of c.args.s.now) c.args.l.now
  map_is = c.map-map.ensures ∙ (λ i. map_of (c.sequenced-section.ensures.counted i) (links_of (c.sequenced-section.ensures.value i)) c.args.l.now)

  length_is : c.record_length-length.result ≡ record_length (map_of (counted c.args.s.now) (links_of c.args.s.now) c.args.l.now)
  length_is = c.record_length-length.ensures ∙ ap record_length (map_is ∙ map_sequenced (counted c.args.s.now) (links_of c.args.s.now) c.args.l.now)

  fits_as : {t : Bool} → leb c.record_length-length.result (length c.args.buffer.now) ≡ t
      → leb (record_length (map_of (counted c.args.s.now) (links_of c.args.s.now) c.args.l.now)) (length c.args.buffer.now) ≡ t
  fits_as e = ap (λ (n : ℕ). leb n (length c.args.buffer.now)) (sym length_is) ∙ e

  short : leb c.record_length-length.result (length c.args.buffer.now) ≡ false → {x : Unit {0}} → c.test_record.result ≡ Ok x
      → Answered (counted c.args.s.now) (links_of c.args.s.now) c.args.l.now c.args.buffer.now (Err BufferTooShort) c.args.buffer.now
  short e was = by_length (counted c.args.s.now) (links_of c.args.s.now) c.args.l.now c.args.buffer.now
      (none_fails (goal.at.After-unless c).After-test_record was) (fits_as e)

pub returns-in_err-unless-clause-value : goal.returns-in_err-unless-clause-value
returns-in_err-unless-clause-value c =
    let x = refused _ c.unless.ensures _ c.from_residual-in_err-unless.ensures.1 c.in_err-unless.was in
    ap written_as x.1 ∙ (short (goal.at.returns-in_err-unless-clause-value c).After-unless x.0 c.in_ok-test_record.was).value

pub returns-in_err-unless-clause-lent : goal.returns-in_err-unless-clause-lent
returns-in_err-unless-clause-lent c =
    let x = refused _ c.unless.ensures _ c.from_residual-in_err-unless.ensures.1 c.in_err-unless.was in
    (short (goal.at.returns-in_err-unless-clause-lent c).After-unless x.0 c.in_ok-test_record.was).lent

-- nothing is refused
pub returns : goal.returns
returns c =
    let s = c.args.s.now in
    let l = c.args.l.now in
    let xs = c.args.buffer.now in
    let u = (goal.at.returns c).After-unless in
    let fits = passed _ c.unless.ensures c.in_ok-unless.was in
    let long = leb-true c.record_length-length.result (length xs) fits in
    let a = done (counted s) (links_of s) l xs c.map-map.result c.record_length-length.result (map_is u) c.record_length-length.ensures
    (none_fails (goal.at.returns c).After-test_record c.in_ok-test_record.was) (fits_as u fits) (omega (arith, c.record_length-length.ensures)) in
    record {
      value = a.value;
      lent = c.put_fields.ensures
          ∙ (λ i. placed c.put.new.buffer 4 (fields (c.sequenced-section.ensures.counted i) (links_of (c.sequenced-section.ensures.value i)) l))
          ∙ ap (λ (ys : List ℕ). placed ys 4 (fields (sequenced_layers (counted s)) (links_of s) l))
          (c.put.ensures ∙ ap (placed xs 0) (c.to_be_bytes.ensures ∙ to_four c.map-map.result))
          ∙ a.lent;
    }
