-- The rows of the stress block's factors: one test, computed over all of them, and what it says of the row of a class. Assumes nothing.
use Prim.Native.Nat.{ℕ}
use mathlib.Core.Bool.{Bool, true, false, cond, ◌&&◌}
use mathlib.Core.List.{List, [], ◌∷◌}
use mathlib.Core.Path.{◌≡◌, refl, sym, ◌∙◌}
use lib.Dec.{T, eqb}
use borrow.Author.Tests.{eqb-true}
use denote.Ref.{Bor}
use Rattle.std.specs.Prelude.{Option, None, Some, IsSome, IfSome}
use Rattle.std.specs.List.{find as first}
use Rattle.std.specs.Option.{is_some, option_map}
use Rattle.std.proofs.lemmas.Option.{none-some, same_Some}
use Rattle.arith.specs.Every.{every}
use Rattle.arith.specs.Fraction.{whole, ◌*ᶠ◌, Same, is_same}
use Rattle.arith.proofs.Fraction.{same_by}
use Rattle.arith.proofs.Test.{and_yes, clash}
use Rattle.materials.specs.declared.Block.{Block}
use Rattle.materials.specs.declared.Class.{Class}
use Rattle.materials.specs.Strength.{depth_factor, strength_factor}
use Rattle.materials.specs.Table.{table, find, in_table}
use Rattle.materials.proofs.Table.{passes, found}

abbrev Row : Type 0
Row = ℕ × Block

-- a row has what the formula of 3.1.7(3) gives at its class: 80 times the depth factor, and 1,000 times the strength factor
abbrev depth_right : Row → Bool
depth_right row = is_same (whole row.1.l) (whole 80 *ᶠ depth_factor row.0)

abbrev strength_right : Row → Bool
strength_right row = is_same (whole row.1.eta) (whole 1000 *ᶠ strength_factor row.0)

abbrev right : Row → Bool
right row = depth_right row && strength_right row

-- the first row of fck
abbrev pub row_at : ℕ → List Row → Option Row
row_at fck rows = first (λ row. eqb row.0 fck) rows

-- the test: every row is right, and every class has one
abbrev complete : List Row → Bool
complete rows = every right rows && every (passes (λ fck class. is_some (row_at fck rows))) table

-- both factors of fck, as the contract of `block_of` says them
pub record IsBlock (fck : ℕ) (block : Block) : Type 0 where
  pub depth : Same (whole block.l) (whole 80 *ᶠ depth_factor fck)
  pub strength : Same (whole block.eta) (whole 1000 *ᶠ strength_factor fck)

-- the row of fck is one of the rows, and so it is right
this_or_rest : (fck : ℕ) (row : Row) (rest : Option Row) {met : Row} (same : Bool) → eqb row.0 fck ≡ same → T (right row)
    → (rest ≡ Some met → IsBlock fck met.1) → cond same (Some row) rest ≡ Some met → IsBlock fck met.1
this_or_rest fck row rest {met} true same t later e =
    let both = and_yes (depth_right row) (strength_right row) t in
    let is : IsBlock row.0 row.1 = record { depth = same_by both.0; strength = same_by both.1 } in
    rw (eqb-true row.0 fck same, same_Some row met e) at is
this_or_rest fck row rest false same t later e = later e

is_right : (fck : ℕ) (rows : List Row) {row : Row} → T (every right rows) → row_at fck rows ≡ Some row → IsBlock fck row.1
is_right fck [] {row} all e = absurd (none-some row e)
is_right fck (row ∷ rows) all e =
    let both = and_yes (right row) (every right rows) all in
    this_or_rest fck row (row_at fck rows) (eqb row.0 fck) refl both.0 (λ r. is_right fck rows both.1 r) e

-- fck in the table is a class, and so has a row
class-has : (rows : List Row) (fck : ℕ) (class : Option Class) → find fck table ≡ class → in_table class ≡ true
    → T (every (passes (λ fck class. is_some (row_at fck rows))) table) → T (is_some (row_at fck rows))
class-has rows fck (Some class) row e all = found (λ fck class. is_some (row_at fck rows)) fck table all row
class-has rows fck None row e all = absurd (clash e refl)

-- so of complete rows `find` gives one that is right
there : (fck : ℕ) (rows : List Row) (o : Option (Bor Row)) → option_map (λ row. row.now) o ≡ row_at fck rows → T (every right rows)
    → T (is_some (row_at fck rows)) → IsSome o × IfSome o (λ row. IsBlock fck row.now.1)
there fck rows None is all some = absurd (rw (sym is) at some)
there fck rows (Some row) is all some = (refl, is_right fck rows all (sym is))

pub row_of_class : (fck : ℕ) {rows met : List Row} (o : Option (Bor Row)) → met ≡ rows → option_map (λ row. row.now) o ≡ row_at fck met
    → in_table (find fck table) ≡ true → T (complete rows) → IsSome o × IfSome o (λ row. IsBlock fck row.now.1)
row_of_class fck {rows} o met is class t =
    let both = and_yes (every right rows) _ t in
    there fck rows o (is ∙ rw met) both.0 (class-has rows fck (find fck table) refl class both.1)
