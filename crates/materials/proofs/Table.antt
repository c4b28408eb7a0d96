-- The table of classes: what holds of a class that is found. Assumes nothing.
use Prim.Native.Nat.{ℕ}
use mathlib.Core.Bool.{Bool, true, false, cond}
use mathlib.Core.List.{List, [], ◌∷◌}
use mathlib.Core.Path.{◌≡◌, refl}
use native.Mathlib.Omega.{arith}
use lib.Dec.{T, eqb}
use lib.IntN.{ℤ, pos, negsuc, nat_abs}
use borrow.Author.Tests.{eqb-true}
use Rattle.std.specs.Prelude.{Option, Some}
use Rattle.arith.specs.Every.{every}
use Rattle.arith.proofs.Test.{and_yes}
use Rattle.materials.specs.declared.Class.{Class}
use Rattle.materials.specs.Table.{Entry, Entry.entry, table, find, row_of}

-- a test that every class passes holds of the class that is found
abbrev pub passes : (ℕ → Class → Bool) → Entry → Bool
passes p (entry strength class) = p strength class

first_or_rest : (p : ℕ → Class → Bool) (k strength : ℕ) (first : Class) {class : Class} (rest : Option Class) (same : Bool) → eqb k strength ≡ same →
    T (p strength first) → (rest ≡ Some class → T (p k class)) → cond same (Some first) rest ≡ Some class → T (p k class)
first_or_rest p k strength first {class} rest true same here later r =
    let k-is : k ≡ strength = eqb-true k strength same in
    let class-is : first ≡ class = cc in
    rw (k-is, ← class-is) here
first_or_rest p k strength first rest false same here later r = later r

pub found : (p : ℕ → Class → Bool) (k : ℕ) (entries : List Entry) {class : Class} → T (every (passes p) entries)
    → find k entries ≡ Some class → T (p k class)
found p k [] all q = absurd (let z : ◌≡◌ {A = ℕ} 0 1 = cc in omega arith)
found p k (entry strength first ∷ entries) all q =
    let here = and_yes (p strength first) (every (passes p) entries) all in
    first_or_rest p k strength first (find k entries) (eqb k strength) refl here.0 (λ r. found p k entries here.1 r) q

-- a class that was found by an integer is found by its magnitude
pub class-row : (fck : ℤ) {class : Class} → row_of fck ≡ Some class → find (nat_abs fck) table ≡ Some class
class-row (pos k) row = row
class-row (negsuc k) row = absurd (let z : ◌≡◌ {A = ℕ} 0 1 = cc in omega arith)
