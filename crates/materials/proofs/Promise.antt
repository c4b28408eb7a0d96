-- The clauses of `look_up` that follow from its first: the refusal, the numbers with nothing rounded, and the promise, all that a
-- part above may use of the materials. Assumes nothing.
use Prim.Native.Nat.{ℕ, ◌≤◌}
use mathlib.Core.Bool.{Bool, true, false}
use mathlib.Core.List.{List, [], ◌∷◌}
use mathlib.Core.Path.{◌≡◌, refl, sym, ◌∙◌}
use native.Mathlib.Nat.{le_trans}
use native.Mathlib.Omega.{arith}
use lib.Dec.{T, eqb, leb→le}
use lib.IntN.{ℤ, pos, negsuc, nat_abs}
use lib.ListN.{get_or}
use Rattle.std.specs.Prelude.{Option, None, Some, Result}
use Rattle.std.specs.Result.{result_err}
use Rattle.arith.specs.Fraction.{whole, ◌-ᶠ◌, ◌*ᶠ◌, ◌/ᶠ◌, ◌÷ᶠ◌, Same, is_same, floor, rounded_down}
use Rattle.arith.specs.Integer.{in_range}
use Rattle.arith.proofs.Computed.{between, nth}
use Rattle.arith.proofs.Fraction.{same_by}
use Rattle.arith.proofs.Range.{Natural, natural}
use Rattle.arith.proofs.Test.{and_yes, by_cond}
use Rattle.refusals.specs.declared.Refusal.{Refusal}
use Rattle.refusals.specs.declared.Refusal.TheVariants.{ConcreteClass, SteelStrength, DesignSituation, LongTermFactor}
use Rattle.refusals.specs.Chain.{test, first_failing}
use Rattle.materials.specs.declared.Class.{Class}
use Rattle.materials.specs.declared.Grade.{Grade}
use Rattle.materials.specs.declared.Materials.{Materials}
use Rattle.materials.specs.Table.{table, find, row_of, in_table}
use Rattle.materials.specs.Situation.{Situation, persistent, accidental, situation_of, long_term}
use Rattle.materials.specs.Strength.{depth_factor, L, CRdc, crd}
use Rattle.materials.specs.Answer.{grade_tests, numbers, answered, materials_in, materials_of, opened, Exact, Bounds, Promised}
use Rattle.materials.proofs.Limits.{in_both, limits, ordered, strongest, limited, always_limited, all-limited}
use Rattle.materials.proofs.Strength.{s-rises}
use Rattle.materials.proofs.Table.{found}

-- ---- a test of both situations passes in the one that a number names

in_either : (p : Situation → Bool) → T (in_both p) → (i : ℕ) → T (p (situation_of i))
in_either p t i = let both = and_yes (p persistent) (p accidental) t in by_cond (λ j. T (p j)) (eqb i 1) (λ e. both.0) (λ e. both.1)

-- ---- the bounds, from that test and from the law that s rises with fyk

-- in situation i, of a class and an αcc that passed their tests,
module _ (i k : ℕ) {class : Class} (row : find k table ≡ Some class) {alphacc : ℤ} (x : Natural 80 100 alphacc) where
  abbrev pairs : List (ℕ × ℕ)
  pairs = limits (strongest k class (nat_abs alphacc) (situation_of i))

  -- the n-th of them
  limit : (n : ℕ) → (get_or pairs n (0, 0)).0 ≤ (get_or pairs n (0, 0)).1
  limit n =
      let every-x = found always_limited k table all-limited row in
      let both = between 80 100 (λ x. in_both (limited k class x)) every-x (nat_abs alphacc) x.low x.high in
      leb→le _ _ (nth ordered pairs (0, 0) (in_either (limited k class (nat_abs alphacc)) both i) tt n)

  -- and of a steel
  bounds : {fyk : ℤ} → Natural 400 600 fyk → Bounds (numbers (long_term (nat_abs alphacc)) (situation_of i) k (nat_abs fyk) class)
  bounds y = record {
    fck_high = limit 0;
    fyk_high = y.high;
    T-high = limit 1;
    E-low = limit 2;
    E-high = limit 3;
    D-low = limit 4;
    D-high = limit 5;
    D-most = limit 6;
    L-low = limit 7;
    L-high = limit 8;
    f-low = limit 9;
    f-high = limit 10;
    g-high = limit 11;
    s-high = le_trans (s-rises (situation_of i) y.high) (limit 12);
    crd-high = limit 13;
  }

-- ---- nothing rounded

-- 80 times the depth factor is whole at each class,
L-whole : (k : ℕ) {class : Class} → find k table ≡ Some class → Same (whole (L k)) (whole 80 *ᶠ depth_factor k)
unfolding whole ◌-ᶠ◌ ◌*ᶠ◌ ◌/ᶠ◌ is_same floor rounded_down depth_factor L
L-whole k row = same_by (found (λ k c. is_same (whole (L k)) (whole 80 *ᶠ depth_factor k)) k table tt row)

-- and 100 times CRd,c in either situation
crd-whole : (i : ℕ) → Same (whole (crd (situation_of i))) (whole 100 *ᶠ CRdc (situation_of i))
unfolding whole ◌*ᶠ◌ ◌/ᶠ◌ ◌÷ᶠ◌ is_same floor rounded_down CRdc crd
crd-whole i = same_by (in_either (λ j. is_same (whole (crd j)) (whole 100 *ᶠ CRdc j)) tt i)

-- ---- the clauses

-- all that is shown of an answer, the first of whose tests that fails is k
record Kept (grade : Grade) (k : Option Refusal) (a : Result Materials Refusal) : Type 0 where
  refusal : result_err a ≡ k
  exact : Exact grade a
  promised : Promised grade a

-- by cases of the four tests
kept : (grade : Grade) (fck : ℤ) (row : Option Class) (steel situation factor : Bool) → grade.fck ≡ fck → row_of fck ≡ row
    → in_range (pos 400) (pos 600) grade.fyk ≡ steel → in_range (pos 80) (pos 100) grade.alphacc ≡ factor →
    let ts = test ConcreteClass (in_table row) ∷ test SteelStrength steel ∷ test DesignSituation situation ∷ test LongTermFactor factor ∷ [] in
    Kept grade (first_failing ts) (answered grade (first_failing ts) row)
kept grade (pos k) (Some class) true true true is row y x =
    let n = natural 400 600 grade.fyk y in
    let i : ℕ = nat_abs grade.situation in
    record {
      refusal = refl;
      exact = rw is record { L-exact = L-whole k row; crd_exact = crd-whole i };
      promised = record { asked = record { fck_is = rw is; fyk_is = n.is }; bounds = rw is (bounds i k row (natural 80 100 grade.alphacc x) n) };
    }
kept grade (negsuc k) (Some class) true true true is row y x = absurd (let z : ◌≡◌ {A = ℕ} 0 1 = cc in omega arith)
kept grade fck (Some class) true true false is row y x = record { refusal = refl; exact = tt; promised = record { member = tt } }
kept grade fck (Some class) true false factor is row y x = record { refusal = refl; exact = tt; promised = record { member = tt } }
kept grade fck (Some class) false situation factor is row y x = record { refusal = refl; exact = tt; promised = record { member = tt } }
kept grade fck None steel situation factor is row y x = record { refusal = refl; exact = tt; promised = record { member = tt } }

all-kept : (grade : Grade) → Kept grade (first_failing (grade_tests grade)) (materials_of grade)
all-kept grade =
    rw (opened grade)
    (kept grade grade.fck (row_of grade.fck) (in_range (pos 400) (pos 600) grade.fyk) (in_range (pos 1) (pos 2) grade.situation)
    (in_range (pos 80) (pos 100) grade.alphacc) refl refl refl refl)

pub promise : (grade : Grade) → Promised grade (materials_of grade)
promise grade = (all-kept grade).promised

-- the clauses of `look_up`, of an answer that is the definition's
pub clauses : (grade : Grade) {r : Result Materials Refusal} → r ≡ materials_in grade →
    (r ≡ materials_of grade) × ((result_err r ≡ first_failing (grade_tests grade)) × (Exact grade r × Promised grade r))
clauses grade e =
    let m = e ∙ sym (opened grade) in
    let k = all-kept grade in
    (m, (rw m k.refusal, (rw m k.exact, rw m k.promised)))
