-- Vertical links: document 02, ticket 3. The resistance of 6.2.3(3) by the truss model, and what 9.2.2 asks of the links. Of a `Truss` x, b,
-- fck, fyk, g and s are 01's letters, dm is the mean depth of the tension layers, `area` the links' area, the standard's Asw, and `spacing`
-- their spacing. Assumes nothing.
use Rattle.std.specs.Prelude.{ℕ, ◌*◌, min, Bool}
use Rattle.arith.specs.Fraction.{Fraction, Ratio, whole, ratio, reciprocal, ◌-ᶠ◌, ◌*ᶠ◌, ◌/ᶠ◌, ◌÷ᶠ◌, ◌+ʳ◌, at_most, rounded_down}
use Rattle.arith.specs.Greatest.{first_greatest, IsFirstGreatest}

-- all that these clauses ask
pub record Truss : Type 0 where
  pub b : ℕ
  pub fck : ℕ
  pub fyk : ℕ
  pub g : ℕ
  pub s : ℕ
  pub dm : ℕ
  pub area : ℕ
  pub spacing : ℕ

-- the lever arm z: 0.9·dm
abbrev pub lever : Truss → Fraction
lever x = whole 9 /ᶠ 10 *ᶠ whole x.dm

-- ν, (6.6N): 0.6·(1 − fck/250)
abbrev pub ν : Truss → Fraction
ν x = whole 6 /ᶠ 10 *ᶠ (whole 1 -ᶠ whole x.fck /ᶠ 250)

-- the cotangent of the strut's angle, c tenths
abbrev pub cotangent : ℕ → Ratio
cotangent c = record { p = c; q = 10 }

-- (6.8), the links: area/spacing times lever arm times s/100 times the cotangent, rounded down once to whole newtons
unfoldable pub link_resistance : Truss → ℕ → ℕ
link_resistance x c = rounded_down (whole x.area /ᶠ x.spacing *ᶠ lever x *ᶠ (whole x.s /ᶠ 100) *ᶠ ratio (cotangent c))

-- (6.9), the strut: b times lever arm times ν times g/100, divided by the sum of the cotangent and its reciprocal; αcw is 1
unfoldable pub strut_resistance : Truss → ℕ → ℕ
strut_resistance x c =
    rounded_down (whole x.b *ᶠ lever x *ᶠ ν x *ᶠ (whole x.g /ᶠ 100) ÷ᶠ (cotangent c +ʳ reciprocal (cotangent c)))

-- of the two, compared so rounded, the lesser
abbrev pub lesser : Truss → ℕ → ℕ
lesser x c = min (link_resistance x c) (strut_resistance x c)

-- the answer, in tenths: each tenth from 1.0 to 2.5, the limits of (6.7N), is tried, 10 and the 15 that follow; the one whose lesser
-- resistance is greatest, the smallest on a tie
unfoldable pub strut_cotangent : Truss → ℕ
strut_cotangent x = first_greatest (lesser x) 10 15

-- and the resistance there
abbrev pub truss_resistance : Truss → ℕ
truss_resistance x = lesser x (strut_cotangent x)

-- c is that answer: no tenth does better, and every smaller one does worse
abbrev pub BestCotangent : Truss → ℕ → Type 0
BestCotangent x c = IsFirstGreatest (lesser x) 10 25 c

-- ---- what 9.2.2 asks of the links

-- (6): the spacing is at most 0.75·dm
unfoldable pub spacing_ok : Truss → Bool
spacing_ok x = at_most (whole x.spacing) (whole 75 /ᶠ 100 *ᶠ whole x.dm)

abbrev pub square : Fraction → Fraction
square a = a *ᶠ a

-- (5): the link ratio area/(spacing·b) is at least 0.08·√fck/fyk, compared by squares
unfoldable pub ratio_ok : Truss → Bool
ratio_ok x = at_most (square (whole 8 /ᶠ 100 /ᶠ x.fyk) *ᶠ whole x.fck) (square (whole x.area /ᶠ (x.spacing * x.b)))
