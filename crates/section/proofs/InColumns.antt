-- The layers that two columns hold, and a section in columns: laws of the form that the code had, which docs/PORT.md names. Assumes nothing.
use Prim.Native.Nat.{ℕ, zero, suc, ◌+◌, ◌≤◌, ◌<◌}
use mathlib.Core.List.{List, [], ◌∷◌, ◌++◌, map, map-append}
use mathlib.Core.Path.{◌≡◌, refl, ap, ap₂, ◌∙◌}
use native.Mathlib.Numerals.{add-one}
use native.Mathlib.Omega.{arith}
use lib.ListN.{length, take, drop, get_or, set, get_or-map}
use lib.IntN.{ℤ}
use lib.Seq.{drop-cons, take_all, take-suc, take-suc-set}
use Rattle.section.specs.declared.Layer.{Layer}
use Rattle.section.specs.declared.Section.{Section}
use Rattle.section.specs.Section.{no_layer, layers_of, counted}
use Rattle.section.specs.Code.Columns.{layer_in, layers_from, layers_in, in_columns, Apart}
use Rattle.section.specs.Code.Accepted.{area_sum}

module _ (ds bs : List ℕ) where
  area-from : (n k : ℕ) → area_sum (layers_from n k ds bs) ≡ area_sum (layers_from n k [] bs)
  unfolding layers_from area_sum
  area-from zero k = refl
  area-from (suc n) k = ap (λ (t : ℕ). get_or bs k 0 + t) (area-from n (suc k))

-- ---- a section taken apart

module _ (ls : List Layer) where
  here : (k : ℕ) → layer_in (map (λ l. l.depth) ls) (map (λ l. l.area) ls) k ≡ get_or ls k no_layer
  here k = λ i. record { depth = get_or-map (λ l. l.depth) ls k no_layer i; area = get_or-map (λ l. l.area) ls k no_layer i }

  from : (n k : ℕ) → k + n ≤ length ls → layers_from n k (map (λ l. l.depth) ls) (map (λ l. l.area) ls) ≡ take n (drop k ls)
  unfolding layers_from
  from zero k h = refl
  from (suc n) k h = rw (drop-cons ls k no_layer (omega arith)) (ap₂ ◌∷◌ (here k) (from n (suc k) (omega arith)))

  pub apart : (n : ℕ) → n ≤ length ls → layers_in n (map (λ l. l.depth) ls) (map (λ l. l.area) ls) ≡ take n ls
  apart n h = from n 0 (omega arith)

module _ {s : Section} {ds bs : List ℕ} (a : Apart s ds bs) where
  held : (n : ℕ) → n ≤ 16 → layers_in n ds bs ≡ take n s.layers
  held n few = (λ i. layers_in n (a.depths_are i) (a.areas_are i)) ∙ apart s.layers n (omega (arith, a.places))

  -- the columns hold its counted layers
  pub counted-in : s.count ≤ 16 → layers_in s.count ds bs ≡ layers_of s
  counted-in few = held s.count few

  -- and what is read of it is the same in columns
  pub in_columns_lem : {w h : ℤ} → w ≡ s.width → h ≡ s.height → in_columns w h s.grade s.count ds bs ≡ counted s
  in_columns_lem w h =
      let all : layers_in 16 ds bs ≡ s.layers = held 16 (omega arith) ∙ take_all 16 s.layers (omega (arith, a.places)) in
      λ i. record { width = w i; height = h i; grade = s.grade; count = s.count; layers = take s.count (all i) }

-- ---- a column that takes f of the sixteen places of xs, one after the other

module _ {A : Type 0} (f : A → ℕ) (d : A) (xs : List A) (column : List ℕ) where
  -- the next place
  pub place_taken : (i : ℕ) → i < length xs → i < length column → take i column ≡ map f (take i xs)
      → take (i + 1) (set column i (f (get_or xs i d))) ≡ map f (take (i + 1) xs)
  place_taken i h k e = rw (add-one i, take-suc-set column i _ k, take-suc xs i d h, map-append f (take i xs) (get_or xs i d ∷ []))
      (ap (λ (t : List ℕ). t ++ (f (get_or xs i d) ∷ [])) e)
