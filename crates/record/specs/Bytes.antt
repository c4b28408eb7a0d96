-- "Big-endian", and the signs of numbers: document 01, "The record". A list of bytes is a list of whole numbers below 256.
-- Assumes nothing.
use Rattle.std.specs.Prelude.{ℕ, zero, suc, ◌+◌, ◌-◌, ◌*◌, ◌/◌, ◌%◌, ◌^◌, cond, ltb, ℤ, pos, negsuc, neg_ℤ}
use Rattle.std.specs.Prelude.{List, [], ◌∷◌, ◌++◌, length, get_or, take, drop}

-- the number that n bytes make from the place `at` on, the highest byte first
unfoldable pub number_at : List ℕ → ℕ → ℕ → ℕ
number_at xs at zero = 0
number_at xs at (suc n) = number_at xs at n * 256 + get_or xs (at + n) 0

-- the n bytes of v, the highest first
unfoldable pub bytes_of : ℕ → ℕ → List ℕ
bytes_of zero v = []
bytes_of (suc n) v = bytes_of n (v / 256) ++ (v % 256 ∷ [])

-- xs with the bytes ys in it from the place `at` on
unfoldable pub placed : List ℕ → ℕ → List ℕ → List ℕ
placed xs at ys = take at xs ++ (ys ++ drop (at + length ys) xs)

-- two's complement in eight bytes: v itself below 2 ^ 63, else v − 2 ^ 64
abbrev pub signed : ℕ → ℤ
signed v = cond (ltb v (2 ^ 63)) (pos v) (neg_ℤ (pos (2 ^ 64 - v)))

-- and back; `negsuc n` is −(n + 1)
abbrev pub unsigned : ℤ → ℕ
unsigned (pos n) = n
unsigned (negsuc n) = 2 ^ 64 - suc n
