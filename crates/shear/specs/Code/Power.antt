-- The form of the three tests of which document 01 asks "the greatest with": those of K, r and q. Assumes nothing.
use Rattle.std.specs.Prelude.{ℕ, ◌*◌, ◌^◌, ◌<◌, Bool, leb}

-- kᵉ·a ≤ y
abbrev pub power_at_most : ℕ → ℕ → ℕ → ℕ → Bool
power_at_most e a y k = leb (k ^ e * a) y

-- what the code asks: no power and no product past 64 bits
pub record PowersFit (e a k : ℕ) : Type 0 where
  pub power : k ^ e < 2 ^ 64
  pub product : k ^ e * a < 2 ^ 64
