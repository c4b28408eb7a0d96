-- The square-root inequality of the size factor, as a test of one entry of the manual's table, and what it shows. Assumes nothing.
use mathlib.Core.Path.{◌≡◌}
use mathlib.Core.Bool.{Bool, not, ◌&&◌}
use mathlib.Core.List.{List}
use Prim.Native.Nat.{ℕ, suc, ◌+◌, ◌-◌, ◌*◌, ◌^◌, ◌≤◌, ◌<◌}
use native.Mathlib.Nat.{le_refl}
use native.Mathlib.Omega.{arith}
use lib.Dec.{T, leb, leb→le}
use lib.ListN.{length, get_or}
use borrow.Author.Tests.{le-leb, not-true}
use Rattle.arith.proofs.Greatest.{greatest-le, le-greatest, greatest-lt}
use Rattle.arith.proofs.Test.{is_true, and_yes}
use Rattle.shear.specs.SizeFactor.{K, Printed}
use Rattle.shear.specs.Code.Power.{power_at_most}
use Rattle.shear.proofs.Powers.{never_back}
use Rattle.arith.proofs.Computed.{every_from, entry}

-- x is K at dm: x − 1,000 passes, and the next number does not
abbrev pub right : ℕ → ℕ → Bool
right dm x = leb 1000 x && (leb x 2000 && (power_at_most 2 dm 200000000 (x - 1000) && not (power_at_most 2 dm 200000000 (suc (x - 1000)))))

is_factor : (dm x : ℕ) → T (right dm x) → x ≡ K dm
unfolding K
is_factor dm x t =
    let low = and_yes (leb 1000 x) _ t in
    let high = and_yes (leb x 2000) _ low.1 in
    let two = and_yes (power_at_most 2 dm 200000000 (x - 1000)) _ high.1 in
    let h : 1000 ≤ x = leb→le 1000 x low.0 in
    let k : x ≤ 2000 = leb→le x 2000 high.0 in
    omega (
      arith,
      le-greatest (power_at_most 2 dm 200000000) 1000 (x - 1000) (omega arith) (is_true _ two.0),
      greatest-lt (power_at_most 2 dm 200000000)
          (never_back 2 dm 200000000) 1000 (suc (x - 1000)) (omega arith) (not-true _ (is_true _ two.1)),
    )

-- a table whose entries pass the test from 200 on
pub printed : (table : List ℕ) → T (every_from right 200 table) → length table ≡ 1800 → Printed table
printed table t n =
    record { entry = λ i h. is_factor (200 + i) (get_or table i 0) (entry right 200 table t i (omega arith)) }

-- below 200 every k up to 1,000 passes
pub below : (dm : ℕ) → dm < 200 → 2000 ≡ K dm
unfolding K
below dm h =
    omega (
      arith,
      greatest-le (power_at_most 2 dm 200000000) 1000,
      le-greatest (power_at_most 2 dm 200000000) 1000 1000 (le_refl 1000)
          (le-leb (1000 ^ 2 * dm) 200000000 (omega arith)),
    )
