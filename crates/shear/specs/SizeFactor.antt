-- The size factor of 6.2.2(1), 1 + √(200/d) and at most 2.0: document 01, "Verdicts", the third. Assumes nothing.
use Rattle.std.specs.Prelude.{ℕ, ◌+◌, ◌*◌, ◌^◌, ◌<◌, List, ◌≡◌, leb, get_or}
use Rattle.arith.specs.Greatest.{greatest}

-- 01's K, in thousandths, of an effective depth dm: 1,000 plus the greatest k with k²·dm ≤ 200,000,000.
-- That k is sought up to 1,000 only: this is the "never above 2,000".
unfoldable pub K : ℕ → ℕ
K dm = 1000 + greatest (λ k. leb (k ^ 2 * dm) 200000000) 1000

-- the manual's table: K for each dm from 200 to 1,999
pub record Printed (table : List ℕ) : Type 0 where
  pub entry : (i : ℕ) → i < 1800 → get_or table i 0 ≡ K (200 + i)
