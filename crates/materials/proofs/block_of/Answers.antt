-- Every row passes one computed test, and the row of a class is met.
use mathlib.Core.Path.{refl}
use borrow.Author.Rules.{rules}
use lib.Dec.{eqb}
use Rattle.std.proofs.Common.{tests}
use Rattle.std.specs.Prelude.{IsSome, IfSome}
use Rattle.std.proofs.lemmas.Iterator.{YieldsList-from_slice}
use Rattle.std.proofs.lemmas.Iterator.Search.{find_from_yields_List}
use Rattle.arith.specs.Fraction.{whole, ◌-ᶠ◌, ◌*ᶠ◌, ◌/ᶠ◌, is_same}
use Rattle.materials.specs.Strength.{depth_factor, strength_factor}
use Rattle.materials.proofs.Rows.{IsBlock, row_of_class}
use Rattle.materials.proofs.block_of.Goals as goal
use Rattle.materials.proofs.block_of.Goals.{After-find}

module _ (c : After-find) where
  row_is : IsSome c.find.result × IfSome c.find.result (λ row. IsBlock c.args.fck row.now.1)
  unfolding whole ◌-ᶠ◌ ◌*ᶠ◌ ◌/ᶠ◌ is_same depth_factor strength_factor
  row_is =
      row_of_class c.args.fck _ c.iter.ensures.rest
      (find_from_yields_List (λ row. eqb row.0 c.args.fck) _ _ c.find.result c.find.ensures.ran (YieldsList-from_slice _ refl) (λ x b q k. search (rules, tests)))
      c.requires tt

pub unwrap-requires : goal.unwrap-requires
unwrap-requires c = (row_is c).0

pub returns : goal.returns
returns c =
    let found = (goal.at.returns c).After-find in
    let block : IsBlock c.args.fck c.unwrap.result.now.1 = rw c.unwrap.ensures at (row_is found).1 in
    record { depth = block.depth; strength = block.strength }
