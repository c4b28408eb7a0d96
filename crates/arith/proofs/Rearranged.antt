-- What does not mind the sequence of a list: one law for every fold, and so for every sum, be it of whole numbers, of fractions or of tests. Assumes nothing.
use Prim.Native.Nat.{ℕ, ◌+◌}
use mathlib.Core.Path.{◌≡◌, refl, sym, ap, ap₂, subst, ◌∙◌}
use mathlib.Core.Bool.{Bool, true, false, cond, ◌&&◌, Bool-set}
use mathlib.Core.HLevel.{Σ_set}
use mathlib.Core.List.Perm
use mathlib.Core.List.{List, [], ◌∷◌, foldr, map, count, count_p-cons, perm_iff_count}
use mathlib.Core.Logic.{◌↔◌, ite}
use mathlib.Core.Nat as M
use native.Mathlib.Nat.{ℕ_set, add_comm}
use native.Mathlib.Bridge.{to_ℕ, from_ℕ, to_ℕ-from_ℕ, to_ℕ-+, from_hom₂}
use native.Mathlib.Omega.{arith}
use ghost.Sets.{retract_set}
use lib.IntN.{◌+ℤ◌, ℤ_set}
use Rattle.arith.specs.Every.{every}
use Rattle.arith.specs.Fraction.{Fraction, ◌+ᶠ◌}
use Rattle.arith.specs.Rearranged.{Rearranged, times}
use Rattle.arith.proofs.Ring.{#, ◌⊕◌, ring}
use Rattle.arith.proofs.Test.{clash}

-- ---- a function g of lists that takes one element at a time: it is the library's fold
module _ {A B : Type 0} (step : A → B → B) (g : List A → B) (one : (x : A) (xs : List A) → g (x ∷ xs) ≡ step x (g xs)) where
  folded : (xs : List A) → g xs ≡ foldr step (g []) xs
  folded [] = refl
  folded (x ∷ xs) = one x xs ∙ ap (step x) (folded xs)

  -- It is the same of a rearranged list where two elements may be taken in either sequence. What it is of no element is not asked. (The library's law
  -- speaks of sets, as all types of numbers, tests and layers are.)
  pub fold_same : IsSet B → ((x y : A) (r : B) → step x (step y r) ≡ step y (step x r)) → {xs ys : List A} → Rearranged xs ys → g xs ≡ g ys
  fold_same set either {xs} {ys} same = folded xs ∙ Perm.foldr-eq set step either same (g []) ∙ sym (folded ys)

-- ---- sums

-- a way to add that takes two summands in either sequence
pub record AnySequence {B : Type 0} (add : B → B → B) : Type 0 where
  pub either_first : (a b r : B) → add a (add b r) ≡ add b (add a r)
  pub set : IsSet B

-- the sum g of f over a list
module _ {A B : Type 0} {add : B → B → B} (any : AnySequence add) (f : A → B) (g : List A → B)
    (one : (x : A) (xs : List A) → g (x ∷ xs) ≡ add (f x) (g xs)) where
  pub sum_same : {xs ys : List A} → Rearranged xs ys → g xs ≡ g ys
  sum_same = fold_same (λ x r. add (f x) r) g one any.set (λ x y r. any.either_first (f x) (f y) r)

pub naturals : AnySequence ◌+◌
naturals = record { either_first = λ a b r. omega arith; set = ℕ_set }

pub integers : AnySequence ◌+ℤ◌
integers = record { either_first = λ a b r. ring (# a ⊕ (# b ⊕ # r)) (# b ⊕ (# a ⊕ # r)) (omega arith); set = ℤ_set }

-- the three whole numbers of a sum of fractions are the same, not only the fraction
abbrev Three : Type 0
Three = ℕ × (ℕ × ℕ)

abbrev three : Fraction → Three
three a = (a.plus, (a.minus, a.over))

abbrev of_three : Three → Fraction
of_three t = record { plus = t.0; minus = t.1.0; over = t.1.1 }

same_three : {p m o p' m' o' : ℕ} → p ≡ p' → m ≡ m' → o ≡ o' → of_three (p, (m, o)) ≡ of_three (p', (m', o'))
same_three e f g = rw (e, f, g)

either_fraction : (a b r : Fraction) → a +ᶠ (b +ᶠ r) ≡ b +ᶠ (a +ᶠ r)
unfolding ◌+ᶠ◌
either_fraction a b r = same_three (omega arith) (omega arith) (omega arith)

pub fractions : AnySequence ◌+ᶠ◌
fractions = record {
  either_first = either_fraction;
  set = retract_set three of_three (λ a. refl) (Σ_set ℕ_set (λ n. Σ_set ℕ_set (λ m. ℕ_set)));
}

-- ---- a test that every element passes is the sum of the tests

either-test : (a b r : Bool) → a && (b && r) ≡ b && (a && r)
either-test true b r = refl
either-test false true r = refl
either-test false false r = refl

tests : AnySequence ◌&&◌
tests = record { either_first = either-test; set = Bool-set }

pub every_same : {A : Type 0} (p : A → Bool) {xs ys : List A} → Rearranged xs ys → every p xs ≡ every p ys
every_same p same = sum_same tests p (every p) (λ x xs. refl) same

-- ---- what is made of each element stands rearranged as they do
module _ {A C : Type 0} (f : A → C) (g : List A → List C) (none : g [] ≡ []) (one : (x : A) (xs : List A) → g (x ∷ xs) ≡ f x ∷ g xs) where
  abbrev putting : A → List C → List C
  putting x r = f x ∷ r

  mapped : (xs : List A) → g xs ≡ map f xs
  mapped xs = folded putting g one xs ∙ ap (λ (r : List C). foldr putting r xs) none ∙ sym (folded putting (map f) (λ x xs. refl) xs)

  pub map_same : {xs ys : List A} → Rearranged xs ys → Rearranged (g xs) (g ys)
  map_same {xs} {ys} same = rw (mapped xs, mapped ys) (Perm.map f same)

-- ---- a rearrangement is an equal bag: each element stands as often in one list as in the other

module _ {A : Type 0} (same : A → A → Bool) (equal : (x y : A) → same x y ≡ true → x ≡ y) (itself : (x : A) → same x x ≡ true) where
  decided : (x y : A) (t : Bool) → same x y ≡ t → Dec (x ≡ y)
  decided x y true e = yes (equal x y e)
  decided x y false e = no (λ p. clash (subst (λ (z : A). same x z ≡ true) p (itself x)) e)

  abbrev decide : (x y : A) → Dec (x ≡ y)
  decide x y = decided x y (same x y) refl

  -- the library counts with whole numbers of its own
  from_inj : (m n : M.ℕ) → from_ℕ m ≡ from_ℕ n → m ≡ n
  from_inj m n e = sym (to_ℕ-from_ℕ m) ∙ ap to_ℕ e ∙ to_ℕ-from_ℕ n

  one_more : (x y : A) (t : Bool) (e : same y x ≡ t) → from_ℕ (ite {C = M.ℕ} (decided y x t e) M.one M.zero) ≡ cond t 1 0
  unfolding decided
  one_more x y true e = refl
  one_more x y false e = refl

  count_is : (x : A) (xs : List A) → from_ℕ (count decide x xs) ≡ times same x xs
  unfolding times
  count_is x [] = refl
  count_is x (y ∷ ys) =
      let here = ite {C = M.ℕ} (decide y x) M.one M.zero in
      ap from_ℕ (count_p-cons {p = λ (z : A). z ≡ x} (λ z. decide z x) y ys)
      ∙ from_hom₂ M.◌+◌ ◌+◌ to_ℕ-+ (count decide x ys) here
      ∙ add_comm (from_ℕ (count decide x ys)) (from_ℕ here)
      ∙ ap₂ ◌+◌ (one_more x y (same y x) refl) (count_is x ys)

  pub bags_same : (xs ys : List A) → Rearranged xs ys ↔ ((x : A) → times same x xs ≡ times same x ys)
  unfolding times
  bags_same xs ys = (
    λ p x. sum_same naturals (λ y. cond (same y x) 1 0) (times same x) (λ y ys. refl) p,
    λ h. (perm_iff_count decide).1 (λ x. from_inj _ _ (count_is x xs ∙ h x ∙ sym (count_is x ys))),
  )
