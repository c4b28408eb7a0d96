-- The equation by cases of the four tests, and the other clauses from it.
use mathlib.Core.Path.{◌≡◌, sym, ap, ◌∙◌}
use mathlib.Core.Bool.{true, false}
use native.Mathlib.Omega.{arith}
use lib.IntN.{ℤ, pos, nat_abs}
use mir.Syntax.{w64}
use mir.Val.{SFits, to_z, of_z}
use mir.Facts.{to_z-of_z}
use borrow.Author.Rules.{rules}
use Rattle.std.specs.Prelude.{None, Some, Ok, option_map}
use Rattle.arith.specs.Integer.{in_range}
use Rattle.arith.proofs.Range.{natural}
use Rattle.refusals.proofs.Exits.{passed, refused, is_there, is_missing, contained}
use Rattle.materials.specs.declared.PartialFactors.{PartialFactors}
use Rattle.materials.specs.Table.{row_of}
use Rattle.materials.specs.Situation.{Situation, situation_of}
use Rattle.materials.specs.Answer.{in_situation}
use Rattle.materials.specs.Code.Factors.{scaled, situation_in}
use Rattle.materials.proofs.Promise.{clauses}
use Rattle.materials.proofs.Table.{class-row}
use Rattle.materials.proofs.look_up.Goals as goal
use Rattle.materials.proofs.look_up.Goals.{After-row_of, After-contains, After-of, After-contains-2, After-unsigned_abs-3}

-- ---- what the factors of a situation's number say of its test

situation_there : (k : ℤ) {j : Situation} → situation_in k ≡ Some j → (in_range (pos 1) (pos 2) k ≡ true) × (j ≡ situation_of (nat_abs k))
situation_there k was = grind arith

situation_missing : (k : ℤ) → situation_in k ≡ None → in_range (pos 1) (pos 2) k ≡ false
situation_missing k was = grind arith

-- ---- the tests, one after the other

module _ (c : After-row_of) where
  -- the four numbers as they are read
  fck_read : to_z w64 (of_z w64 c.args.grade.fck) ≡ c.args.grade.fck
  fck_read = let fits : SFits w64 c.args.grade.fck = search rules in to_z-of_z fits

  fyk_read : to_z w64 (of_z w64 c.args.grade.fyk) ≡ c.args.grade.fyk
  fyk_read = let fits : SFits w64 c.args.grade.fyk = search rules in to_z-of_z fits

  situation_read : to_z w64 (of_z w64 c.args.grade.situation) ≡ c.args.grade.situation
  situation_read = let fits : SFits w64 c.args.grade.situation = search rules in to_z-of_z fits

  alphacc_read : to_z w64 (of_z w64 c.args.grade.alphacc) ≡ c.args.grade.alphacc
  alphacc_read = let fits : SFits w64 c.args.grade.alphacc = search rules in to_z-of_z fits

  -- the row that was found
  row_is : c.row_of.result ≡ row_of c.args.grade.fck
  row_is = c.row_of.ensures ∙ ap row_of fck_read

-- a class in the table
module _ (c : After-contains) where
  class_is : row_of c.args.grade.fck ≡ Some c.in_ok-class.class
  class_is = sym (row_is (goal.at.After-contains c).After-row_of) ∙ is_there _ c.ok_or.ensures.value c.in_ok-class.was

  steel_test : c.contains.result ≡ in_range (pos 400) (pos 600) c.args.grade.fyk
  steel_test = contained _ c.new.ensures.start c.new.ensures.end c.new.ensures.exhausted c.contains.ensures.value

-- and a steel in its range
module _ (c : After-of) where
  abbrev classed : After-contains
  classed = (goal.at.After-of c).After-contains

  steel_is : {done : Unit {0}} → c.unless.result ≡ Ok done → in_range (pos 400) (pos 600) c.args.grade.fyk ≡ true
  steel_is was = sym (steel_test classed) ∙ passed _ c.unless.ensures was

  factors_of : option_map scaled c.of.result ≡ situation_in c.args.grade.situation
  factors_of = c.of.ensures ∙ ap situation_in (situation_read (goal.at.After-of c).After-row_of)

-- and a situation in its own
module _ (c : After-contains-2) where
  abbrev steel_tested : After-of
  steel_tested = (goal.at.After-contains-2 c).After-of

  situation : {j : PartialFactors} → c.ok_or-2.result ≡ Ok j
      → (in_range (pos 1) (pos 2) c.args.grade.situation ≡ true) × (scaled j ≡ in_situation c.args.grade)
  situation was =
      let is = is_there _ c.ok_or-2.ensures.value was in
      situation_there c.args.grade.situation (sym (factors_of steel_tested) ∙ ap (option_map scaled) is)

  alphacc_test : c.contains-2.result ≡ in_range (pos 80) (pos 100) c.args.grade.alphacc
  alphacc_test = contained _ c.new-2.ensures.start c.new-2.ensures.end c.new-2.ensures.exhausted c.contains-2.ensures.value

-- and an αcc in its own
module _ (c : After-unsigned_abs-3) where
  abbrev tested : After-contains-2
  tested = (goal.at.After-unsigned_abs-3 c).After-contains-2

  abbrev begun : After-row_of
  begun = (goal.at.After-unsigned_abs-3 c).After-row_of

  alphacc_is : in_range (pos 80) (pos 100) c.args.grade.alphacc ≡ true
  alphacc_is = sym (alphacc_test tested) ∙ passed _ c.unless-2.ensures c.in_ok-unless-2.was

  fck_abs : c.unsigned_abs.result ≡ nat_abs c.args.grade.fck
  fck_abs = c.unsigned_abs.ensures.value ∙ ap nat_abs (fck_read begun)

  fyk_abs : c.unsigned_abs-2.result ≡ nat_abs c.args.grade.fyk
  fyk_abs = c.unsigned_abs-2.ensures.value ∙ ap nat_abs (fyk_read begun)

  alphacc_abs : c.unsigned_abs-3.result ≡ nat_abs c.args.grade.alphacc
  alphacc_abs = c.unsigned_abs-3.ensures.value ∙ ap nat_abs (alphacc_read begun)

pub design_values-requires : goal.design_values-requires
design_values-requires c =
    let s = steel_tested (tested c) in (
      rw (fck_abs c) (class-row c.args.grade.fck (class_is (classed s))),
      (
        rw (fyk_abs c) (natural 400 600 c.args.grade.fyk (steel_is s c.in_ok-unless.was)).high,
        rw (alphacc_abs c) (natural 80 100 c.args.grade.alphacc (alphacc_is c)).high,
      ),
    )

pub returns-in_err-class-clause-value : goal.returns-in_err-class-clause-value
returns-in_err-class-clause-value c =
    let x = is_missing _ c.ok_or.ensures.value _ c.from_residual.ensures.1 c.in_err-class.was in
    let row = sym (row_is (goal.at.returns-in_err-class-clause-value c).After-row_of) ∙ x.0 in
    (clauses c.args.grade (rw (x.1, row))).0

pub returns-in_err-unless-clause-value : goal.returns-in_err-unless-clause-value
returns-in_err-unless-clause-value c =
    let x = refused _ c.unless.ensures _ c.from_residual-in_err-unless.ensures.1 c.in_err-unless.was in
    let a = (goal.at.returns-in_err-unless-clause-value c).After-contains in
    (clauses c.args.grade (rw (x.1, class_is a, sym (steel_test a) ∙ x.0))).0

pub returns-in_err-factors : goal.returns-in_err-factors
returns-in_err-factors c =
    let a = (goal.at.returns-in_err-factors c).After-of in
    let x = is_missing _ c.ok_or-2.ensures.value _ c.from_residual-in_err-factors.ensures.1 c.in_err-factors.was in
    let none = situation_missing c.args.grade.situation (sym (factors_of a) ∙ ap (option_map scaled) x.0) in
    let all = clauses c.args.grade {r = c.from_residual-in_err-factors.result} (rw (x.1, class_is (classed a), steel_is a c.in_ok-unless.was, none)) in
    record { value = all.0; refusal = all.1.0; exact = all.1.1.0; promised = all.1.1.1 }

pub returns-in_err-unless-2 : goal.returns-in_err-unless-2
returns-in_err-unless-2 c =
    let x = refused _ c.unless-2.ensures _ c.from_residual-in_err-unless-2.ensures.1 c.in_err-unless-2.was in
    let a = (goal.at.returns-in_err-unless-2 c).After-contains-2 in
    let s = steel_tested a in
    let all = clauses c.args.grade {r = c.from_residual-in_err-unless-2.result}
    (rw (x.1, class_is (classed s), steel_is s c.in_ok-unless.was, (situation a c.in_ok-factors.was).0, sym (alphacc_test a) ∙ x.0)) in
    record { value = all.0; refusal = all.1.0; exact = all.1.1.0; promised = all.1.1.1 }

pub returns : goal.returns
returns c =
    let a = (goal.at.returns c).After-unsigned_abs-3 in
    let t = tested a in
    let s = steel_tested t in
    let all = clauses c.args.grade {r = Ok c.design_values.result}
    (simp (
      class_is (classed s),
      steel_is s c.in_ok-unless.was,
      (situation t c.in_ok-factors.was).0,
      alphacc_is a,
      c.design_values.ensures,
      fck_abs a,
      fyk_abs a,
      alphacc_abs a,
      (situation t c.in_ok-factors.was).1,
    )) in
    record { value = all.0; refusal = all.1.0; exact = all.1.1.0; promised = all.1.1.1 }
