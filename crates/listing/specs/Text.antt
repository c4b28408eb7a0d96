-- Whole numbers as decimal text, in the bytes of ASCII: document 01, "The list". Assumes nothing.
use Rattle.std.specs.Prelude.{ℕ, zero, suc, ◌+◌, ◌/◌, ◌%◌, cond, List, [], ◌∷◌, ◌++◌, ltb, ℤ, pos, negsuc}

-- the byte of a digit: 48 is '0'
abbrev pub digit : ℕ → ℕ
digit d = 48 + d

-- the digits of n, if they are at most f: the last one after those of n / 10
unfoldable pub digits_in : ℕ → ℕ → List ℕ
digits_in zero n = []
digits_in (suc f) n = let more = digits_in f (n / 10) ++ (digit (n % 10) ∷ []) in cond (ltb n 10) (digit n ∷ []) more

-- a natural number; n + 1 digits are always enough for n
unfoldable pub natural : ℕ → List ℕ
natural n = digits_in (suc n) n

-- a number with its sign, where it is negative: `negsuc n` is −(n + 1), and 45 is '-'
unfoldable pub integer : ℤ → List ℕ
integer (pos n) = natural n
integer (negsuc n) = 45 ∷ natural (suc n)
