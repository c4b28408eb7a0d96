-- The stress block of 3.1.7(3), the design strengths of 3.1.6(1) and 3.2.7(2), and the partial factor in 6.2.2(1), by the letters of
-- document 01. Assumes nothing.
use Rattle.std.specs.Prelude.{ℕ, ◌-◌, ◌*◌, cond, leb}
use Rattle.arith.specs.Fraction.{Fraction, Ratio, whole, ratio, ◌-ᶠ◌, ◌*ᶠ◌, ◌/ᶠ◌, ◌÷ᶠ◌, rounded_down}
use Rattle.materials.specs.Situation.{Situation}

-- the depth factor λ: 0.8 up to fck 50, above it 0.8 − (fck − 50)/400
unfoldable pub depth_factor : ℕ → Fraction
depth_factor fck = cond (leb fck 50) (whole 8 /ᶠ 10) (whole 8 /ᶠ 10 -ᶠ whole (fck - 50) /ᶠ 400)

-- the strength factor η: 1 up to fck 50, above it 1 − (fck − 50)/200
unfoldable pub strength_factor : ℕ → Fraction
strength_factor fck = cond (leb fck 50) (whole 1) (whole 1 -ᶠ whole (fck - 50) /ᶠ 200)

-- 01's L: 80 times the depth factor. From a class of the table the rounding takes nothing: `Exact`
unfoldable pub L : ℕ → ℕ
L fck = rounded_down (whole 80 *ᶠ depth_factor fck)

-- 01's f, for the block: the strength factor times 100·αcc·fck/γc, "multiplied by αcc before their one rounding down" (ticket 10)
unfoldable pub f : Ratio → Situation → ℕ → ℕ
f αcc j fck = rounded_down (strength_factor fck *ᶠ whole (100 * fck) *ᶠ ratio αcc ÷ᶠ j.γc)

-- 01's g: 100·αcc·fck/γc
unfoldable pub g : Ratio → Situation → ℕ → ℕ
g αcc j fck = rounded_down (whole (100 * fck) *ᶠ ratio αcc ÷ᶠ j.γc)

-- 01's s: 100·fyk/γs
unfoldable pub s : Situation → ℕ → ℕ
s j fyk = rounded_down (whole (100 * fyk) ÷ᶠ j.γs)

-- CRd,c of 6.2.2(1): 0.18/γc
unfoldable pub CRdc : Situation → Fraction
CRdc j = whole 18 /ᶠ 100 ÷ᶠ j.γc

-- 100 times CRd,c: the 12 of 01's v, the 15 of ticket 8. In both situations the rounding takes nothing: `Exact`
unfoldable pub crd : Situation → ℕ
crd j = rounded_down (whole 100 *ᶠ CRdc j)
