-- How long a line can be. Assumes nothing.
use mathlib.Core.Path.{◌≡◌}
use mathlib.Core.List.{List, [], ◌∷◌, map}
use Prim.Native.Nat.{ℕ, ◌+◌, ◌*◌, ◌^◌, ◌≤◌, ◌<◌}
use native.Mathlib.Nat.{lt_of_lt_of_le}
use native.Mathlib.Omega.{arith}
use lib.Dec.{lit≤}
use lib.IntN.{nat_abs}
use lib.ListN.{length, length-append}
use Rattle.clauses.specs.declared.Listed.{Listed}
use Rattle.clauses.specs.Check.{refused_listed}
use Rattle.listing.specs.Text.{natural, integer}
use Rattle.listing.specs.Line.{newline, spaced, line}
use Rattle.listing.proofs.Decimal.{natural-one, natural-most, integer-most}

-- a number of 64 bits has at most 20 digits, and one of 8 bits at most 3
pub most_64 : (n : ℕ) → n < 2 ^ 64 → length (natural n) ≤ 20
most_64 n h = natural-most 19 n (lt_of_lt_of_le h (lit≤ tt))

most_8 : (n : ℕ) → n < 256 → length (natural n) ≤ 3
most_8 n h = natural-most 2 n (lt_of_lt_of_le h (lit≤ tt))

-- verdicts: one digit each
abbrev pub Judged : List ℕ → Type 0
Judged [] = Unit {0}
Judged (v ∷ vs) = (v < 10) × Judged vs

-- the values of a line fit the machine's numbers
pub record Fitting (a : Listed) : Type 0 where
  pub refusal : a.refusal < 2 ^ 64
  pub u : a.u < 2 ^ 64
  pub mrd : nat_abs a.mrd ≤ 2 ^ 63
  pub vrd : a.vrd < 2 ^ 64
  pub dm : a.dm < 2 ^ 64
  pub area : a.area < 2 ^ 64
  pub count : length a.verdicts ≡ 6
  pub verdicts : Judged a.verdicts

-- words of one digit, each after a space
digits_most : (vs end : List ℕ) → Judged vs → length (spaced (map natural vs) end) ≤ 2 * length vs + length end
digits_most [] end h = omega arith
digits_most (v ∷ vs) end h = simp (length-append, natural-one v h.0) (omega (arith, digits_most vs end h.1))

-- a number of at most 20 digits, six words of as many, six of one digit, and the newline
pub any_line : (k : ℕ) (a : Listed) → k < 2 ^ 64 → Fitting a → length (line k a) ≤ 159
unfolding line
any_line k a h f =
    simp length-append
    (omega (
      arith,
      most_64 k h,
      most_64 a.refusal f.refusal,
      most_64 a.u f.u,
      integer-most a.mrd f.mrd,
      most_64 a.vrd f.vrd,
      most_64 a.dm f.dm,
      most_64 a.area f.area,
      digits_most a.verdicts newline f.verdicts,
      f.count,
    ))

-- a refused record: its number, its refusal, and eleven words of one digit
pub refused_line : (k r : ℕ) → k < 2 ^ 64 → r < 256 → length (line k (refused_listed r)) ≤ 47
unfolding line integer
refused_line k r h g =
    simp (length-append, natural-one 0 (omega arith), natural-one 2 (omega arith)) (omega (arith, most_64 k h, most_8 r g))
