-- The two arms are `floor_down` and `floor_same`.
use Rattle.std.proofs.Common.{◌≡◌, sym, subst, pos, ◌-ℤ◌, w64}
use lib.Signed.{quot_z}
use mir.Val.{SFits}
use mir.Facts.{to_z-of_z}
use Rattle.arith.specs.Floor.{floor_div}
use Rattle.arith.proofs.Test.{lt-true, lt-false}
use Rattle.arith.proofs.Bound.{rem-fits}
use Rattle.arith.proofs.Floor.{floor_down, floor_same, floor-fits, quot_fits}
use Rattle.arith.proofs.floor_div.Goals as goal
use Rattle.arith.proofs.floor_div.Goals.{Then-m-lt0}

-- q - 1 is the quotient rounded down, where the remainder is negative
down : (c : Then-m-lt0) → quot_z c.args.a c.args.b -ℤ pos 1 ≡ floor_div c.args.a c.args.b
down c =
    floor_down c.args.a c.args.b c.requires
    (lt-true _ _ (simp (to_z-of_z, c.ranges.a, c.ranges.b, rem-fits c.args.b c.ranges.a) at c.if-m-lt0.true))

down_fits : (c : Then-m-lt0) → SFits w64 (quot_z c.args.a c.args.b -ℤ pos 1)
down_fits c = subst (SFits w64) (sym (down c)) (floor-fits c.args.b c.ranges.a)

pub returns-then-m-lt0 : goal.returns-then-m-lt0
returns-then-m-lt0 c = simp (to_z-of_z, c.ranges.a, c.ranges.b, quot_fits c.requires c.ranges.a, down_fits c) (down c)

pub returns-else-m-lt0 : goal.returns-else-m-lt0
returns-else-m-lt0 c =
    simp (to_z-of_z, c.ranges.a, c.ranges.b, quot_fits c.requires c.ranges.a)
    (floor_same c.args.a c.args.b c.requires
    (lt-false _ _ (simp (to_z-of_z, c.ranges.a, c.ranges.b, rem-fits c.args.b c.ranges.a) at c.if-m-lt0.false)))
