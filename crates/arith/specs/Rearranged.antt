-- A rearrangement of a list: the library's permutations, `Perm` of mathlib. The empty list is a rearrangement of itself; the same first element may
-- stand before both of two rearranged lists; the first two elements may be exchanged; and one rearrangement may follow another. Assumes nothing.
use Rattle.std.specs.Prelude.{ℕ, ◌+◌, Bool, cond}
use mathlib.Core.List.{List, [], ◌∷◌, Perm}

abbrev pub Rearranged : {A : Type 0} → List A → List A → Type 0
Rearranged xs ys = Perm xs ys

-- how often x stands in a list, `same` being a test whether two elements are equal. Lists are rearrangements of each other exactly where each element
-- stands as often in one as in the other, that is, where they are equal bags: of layers this is the law `equal_bags`.
module _ {A : Type 0} (same : A → A → Bool) where
  unfoldable pub times : A → List A → ℕ
  times x [] = 0
  times x (y ∷ ys) = cond (same y x) 1 0 + times x ys
