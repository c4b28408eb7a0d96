-- A walk over a section's layers: what is left of the list, one layer at a time. Assumes nothing.
use mathlib.Core.Path.{◌≡◌, refl, sym, ap, ◌∙◌}
use mathlib.Core.Bool.{Bool, true}
use mathlib.Core.List.{List, [], ◌∷◌}
use Prim.Native.Nat.{ℕ, zero, suc, ◌+◌, ◌≤◌, ◌<◌}
use native.Mathlib.Numerals.{add-one}
use native.Mathlib.Omega.{arith}
use lib.IntN.{ℤ, pos, ◌+ℤ◌, +ℤ_idr}
use lib.ListN.{length, take, drop, get_or}
use lib.Seq.{drop-cons, get_or-take, length-take-le}
use Rattle.arith.proofs.Ring.{#, ◌⊕◌, ring}
use Rattle.arith.proofs.Test.{both_true}
use Rattle.section.specs.declared.Layer.{Layer}
use Rattle.section.specs.declared.Section.{Section}
use Rattle.section.specs.Section.{no_layer, layers_of, all}

-- the layer at place i is the next one of those that are counted
abbrev pub Next : Section → ℕ → Type 0
Next s i = drop i (layers_of s) ≡ get_or s.layers i no_layer ∷ drop (i + 1) (layers_of s)

pub next_of : (n : ℕ) (places : List Layer) (i : ℕ) → length places ≡ 16 → n ≤ 16 → i < n
    → drop i (take n places) ≡ get_or places i no_layer ∷ drop (i + 1) (take n places)
next_of n places i sixteen few h =
    let b : i < length (take n places) = omega (arith, length-take-le n places (omega arith)) in
    rw (add-one, drop-cons (take n places) i no_layer b, get_or-take n places i no_layer h)

pub next : (s : Section) (i : ℕ) → length s.layers ≡ 16 → s.count ≤ 16 → i < s.count → Next s i
next s i = next_of s.count s.layers i

-- what passed of all layers passes of the one at i
all_drop : (p : Layer → Bool) (i : ℕ) (ls : List Layer) → all p ls ≡ true → all p (drop i ls) ≡ true
all_drop p zero ls e = e
all_drop p (suc i) [] e = refl
all_drop p (suc i) (l ∷ ls) e = all_drop p i ls (both_true (p l) (all p ls) e).1

pub all-at : (p : Layer → Bool) (i : ℕ) (ls : List Layer) {ys : List Layer} {l : Layer} → all p ls ≡ true → drop i ls ≡ l ∷ ys → p l ≡ true
all-at p i ls {ys} {l} e nx = (both_true (p l) (all p ys) (rw nx at (all_drop p i ls e))).0

-- a sum f over the layers, taken so far to `sum`
module _ (f : List Layer → ℤ) (sum : ℤ) {total : ℤ} {zs : List Layer} (so_far : sum +ℤ f zs ≡ total) where
  pub sum_step : {ys : List Layer} {l : Layer} (t : ℤ) → zs ≡ l ∷ ys → f (l ∷ ys) ≡ t +ℤ f ys → sum +ℤ t +ℤ f ys ≡ total
  sum_step {ys} t nx e = ring (# sum ⊕ # t ⊕ # (f ys)) (# sum ⊕ (# t ⊕ # (f ys))) (omega arith) ∙ ap (λ z. sum +ℤ z) (sym e) ∙ (rw nx at so_far)

  pub sum_done : zs ≡ [] → f [] ≡ pos 0 → sum ≡ total
  sum_done nx e = sym (+ℤ_idr sum) ∙ ap (λ z. sum +ℤ z) (sym e) ∙ (rw nx at so_far)
