-- What is answered of a grade, tests 3 and 4 of document 01, 32 of 02's ticket 8 and 34 of ticket 10, and what is promised of the answer.
-- Assumes nothing.
use Rattle.std.specs.Prelude.{ℕ, ◌≤◌, List, [], ◌∷◌, ◌≡◌, refl, pos, nat_abs, Option, None, Some, Result, Ok, Err}
use Rattle.arith.specs.Fraction.{Ratio, Same, whole, ◌*ᶠ◌}
use Rattle.arith.specs.Integer.{in_range}
use Rattle.refusals.specs.Chain.{test, first_failing, OneOf}
use Rattle.refusals.specs.declared.Refusal.{Refusal}
use Rattle.refusals.specs.declared.Refusal.TheVariants.{ConcreteClass, SteelStrength, DesignSituation, LongTermFactor}
use Rattle.materials.specs.declared.Grade.{Grade}
use Rattle.materials.specs.declared.Class.{Class}
use Rattle.materials.specs.declared.Materials.{Materials}
use Rattle.materials.specs.Table.{row_of, in_table}
use Rattle.materials.specs.Situation.{Situation, situation_of, long_term}
use Rattle.materials.specs.Strength.{depth_factor, L, f, g, s, CRdc, crd}

-- the tests of a grade, in the documents' sequence
abbrev pub grade_tests : Grade → List (Option Refusal)
grade_tests grade =
    -- 3 fck not in the table
    test ConcreteClass (in_table (row_of grade.fck))
    -- 4 fyk outside 400 to 600
    ∷ test SteelStrength (in_range (pos 400) (pos 600) grade.fyk)
    -- 32 situation other than 1 or 2
    ∷ test DesignSituation (in_range (pos 1) (pos 2) grade.situation)
    -- 34 αcc outside 80 to 100
    ∷ test LongTermFactor (in_range (pos 80) (pos 100) grade.alphacc)
    ∷ []

-- the refusals that they have
abbrev pub grade_refusals : List Refusal
grade_refusals = ConcreteClass ∷ SteelStrength ∷ DesignSituation ∷ LongTermFactor ∷ []

-- the letters of 01, D of ticket 11 and 100·CRd,c, of a class and a steel that passed, with the factor αcc, in the situation j
abbrev pub numbers : Ratio → Situation → ℕ → ℕ → Class → Materials
numbers αcc j fck fyk class =
    record {
      fck = fck;
      fyk = fyk;
      t = class.0;
      e = class.1;
      d = class.2;
      l = L fck;
      f = f αcc j fck;
      g = g αcc j fck;
      s = s j fyk;
      crd = crd j;
    }

-- the situation and αcc of a grade that passed
abbrev pub in_situation : Grade → Situation
in_situation grade = situation_of (nat_abs grade.situation)

abbrev pub αcc_of : Grade → Ratio
αcc_of grade = long_term (nat_abs grade.alphacc)

-- The refusal of the first test that fails, or the letters. (The class of a grade that passed is in the table: the last line is never met.)
abbrev pub answered : Grade → Option Refusal → Option Class → Result Materials Refusal
answered grade (Some r) row = Err r
answered grade None (Some class) = Ok (numbers (αcc_of grade) (in_situation grade) (nat_abs grade.fck) (nat_abs grade.fyk) class)
answered grade None None = Err ConcreteClass

abbrev pub materials_in : Grade → Result Materials Refusal
materials_in grade = answered grade (first_failing (grade_tests grade)) (row_of grade.fck)

-- Sealed: no page outside can look into it. `opened` says what it is, for this crate's proofs and for the worked cases; the parts above
-- use the promise below and no other statement about it.
pub materials_of : Grade → Result Materials Refusal
materials_of grade = materials_in grade

pub opened : (grade : Grade) → materials_of grade ≡ materials_in grade
unfolding materials_of
opened grade = refl

-- Nothing is rounded of L, "80 times the depth factor, always whole" at every class, and of 100 times CRd,c in either situation.
pub record ExactNumbers (grade : Grade) (m : Materials) : Type 0 where
  pub L-exact : Same (whole m.l) (whole 80 *ᶠ depth_factor m.fck)
  pub crd_exact : Same (whole m.crd) (whole 100 *ᶠ CRdc (in_situation grade))

abbrev pub Exact : Grade → Result Materials Refusal → Type 0
Exact grade (Ok m) = ExactNumbers grade m
Exact grade (Err r) = Unit {0}

-- The promise, no more than the parts above use: bounds of the numbers, in every situation and with every αcc,
pub record Bounds (m : Materials) : Type 0 where
  pub fck_high : m.fck ≤ 90
  pub fyk_high : m.fyk ≤ 600
  pub T-high : m.t ≤ 50
  pub E-low : 520 ≤ m.e
  pub E-high : m.e ≤ 700
  pub D-low : 1 ≤ m.d
  pub D-high : m.d ≤ 460
  pub D-most : m.d ≤ m.e
  pub L-low : 56 ≤ m.l
  pub L-high : m.l ≤ 64
  pub f-low : 1 ≤ m.f
  pub f-high : m.f ≤ 6000
  pub g-high : m.g ≤ 7500
  pub s-high : m.s ≤ 60000
  pub crd-high : m.crd ≤ 15

-- of the strengths that were asked for;
pub record Asked (grade : Grade) (m : Materials) : Type 0 where
  pub fck_is : grade.fck ≡ pos m.fck
  pub fyk_is : grade.fyk ≡ pos m.fyk

pub record Promise (grade : Grade) (m : Materials) : Type 0 where
  pub asked : Asked grade m
  pub bounds : Bounds m

-- and no refusal but those of its own tests.
abbrev pub Promised : Grade → Result Materials Refusal → Type 0
Promised grade (Ok m) = Promise grade m
Promised grade (Err r) = OneOf grade_refusals r
