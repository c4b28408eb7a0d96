-- The concrete classes: document 01, "Materials", and 02's ticket 11 for D, after Table 3.1 of EN 1992-1-1. Assumes nothing.
use Rattle.std.specs.Prelude.{ℕ, Bool, true, false, cond, List, [], ◌∷◌, eqb, ℤ, pos, negsuc, Option, None, Some}
use Rattle.materials.specs.declared.Class.{Class}

-- an entry of the table: fck, and what is printed of that class
pub data Entry : Type 0 where
  entry : ℕ → Class → Entry

-- fck; 01's T, fctm in tenths of N/mm²; 01's E, 200,000 N/mm² times the printed strain εcu3; ticket 11's D, 200,000 N/mm² times the printed
-- strain εc3
abbrev class : ℕ → ℕ → ℕ → ℕ → Entry
class fck T E D = entry fck (T, E, D)

abbrev pub table : List Entry
table =
    class 12 16 700 350
    ∷ class 16 19 700 350
    ∷ class 20 22 700 350
    ∷ class 25 26 700 350
    ∷ class 30 29 700 350
    ∷ class 35 32 700 350
    ∷ class 40 35 700 350
    ∷ class 45 38 700 350
    ∷ class 50 41 700 350
    ∷ class 55 42 620 360
    ∷ class 60 44 580 380
    ∷ class 70 46 540 400
    ∷ class 80 48 520 440
    ∷ class 90 50 520 460
    ∷ []

-- the class whose strength is fck
abbrev pub find : ℕ → List Entry → Option Class
find fck [] = None
find fck (entry strength class ∷ entries) = cond (eqb fck strength) (Some class) (find fck entries)

abbrev pub row_of : ℤ → Option Class
row_of (pos fck) = find fck table
row_of (negsuc k) = None

abbrev pub in_table : Option Class → Bool
in_table (Some class) = true
in_table None = false
