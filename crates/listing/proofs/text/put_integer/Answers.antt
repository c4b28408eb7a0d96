-- The text, by the sign.
use mathlib.Core.Path.{◌≡◌, sym, ap, ◌∙◌}
use mathlib.Core.List.{◌∷◌}
use Prim.Native.Nat.{ℕ}
use native.Mathlib.Omega.{arith}
use lib.IntN.{nat_abs}
use lib.ListN.{length}
use mir.Facts.{to_z-of_z}
use Rattle.arith.proofs.Test.{lt-true, lt-false}
use Rattle.listing.specs.Text.{natural, integer}
use Rattle.listing.proofs.Decimal.{integer-low, integer-high}
use Rattle.listing.proofs.Finishing.{same_text, then}
use Rattle.listing.proofs.text.put_integer.Goals as goal
use Rattle.listing.proofs.text.put_integer.Goals.{After-unsigned_abs-n, Then-x-lt0, Else-x-lt0}

is : (c : After-unsigned_abs-n) → nat_abs c.args.x ≡ c.unsigned_abs-n.result
is c = sym (c.unsigned_abs-n.ensures.value ∙ ap nat_abs (to_z-of_z c.ranges.x))

below : (c : Then-x-lt0) → integer c.args.x ≡ 45 ∷ natural c.unsigned_abs-n.result
below c =
    integer-low c.args.x (lt-true _ _ (simp (to_z-of_z, c.ranges.x) at c.if-x-lt0.true))
    ∙ ap (λ (n : ℕ). 45 ∷ natural n) (is (goal.at.Then-x-lt0 c).After-unsigned_abs-n)

above : (c : Else-x-lt0) → integer c.args.x ≡ natural c.unsigned_abs-n.result
above c =
    integer-high c.args.x (lt-false _ _ (simp (to_z-of_z, c.ranges.x) at c.if-x-lt0.false))
    ∙ ap natural (is (goal.at.Else-x-lt0 c).After-unsigned_abs-n)

pub put_byte-digits-requires : goal.put_byte-digits-requires
put_byte-digits-requires c = omega (arith, ap length (below (goal.at.put_byte-digits-requires c).Then-x-lt0), c.requires)

pub put_natural-requires : goal.put_natural-requires
put_natural-requires c =
    omega (
      arith,
      ap length (below (goal.at.put_natural-requires c).Then-x-lt0),
      c.requires,
      c.put_byte-digits.ensures.end,
      c.put_byte-digits.auto.out,
    )

pub put_natural-requires-else-x-lt0 : goal.put_natural-requires-else-x-lt0
put_natural-requires-else-x-lt0 c = omega (arith, ap length (above (goal.at.put_natural-requires-else-x-lt0 c).Else-x-lt0), c.requires)

pub returns-then-x-lt0 : goal.returns-then-x-lt0
returns-then-x-lt0 c =
    let text = below (goal.at.returns-then-x-lt0 c).Then-x-lt0 in
    same_text (sym text) (then (omega (arith, ap length text, c.requires)) c.put_byte-digits.ensures c.put_natural.ensures)

pub returns-else-x-lt0 : goal.returns-else-x-lt0
returns-else-x-lt0 c = same_text (sym (above (goal.at.returns-else-x-lt0 c).Else-x-lt0)) c.put_natural-else-x-lt0.ensures
