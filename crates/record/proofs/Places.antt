-- The layers that are read, one layer bit at a time, and the sixteen places. Assumes nothing.
use mathlib.Core.Path.{◌≡◌, sym, ap, ◌∙◌}
use mathlib.Core.Bool.{Bool, true, false, cond}
use mathlib.Core.List.{List, [], ◌∷◌, ◌++◌, append_assoc, append-nil}
use Prim.Native.Nat.{ℕ, suc, ◌+◌, ◌-◌, ◌<◌}
use native.Mathlib.Numerals.{add-one}
use native.Mathlib.Omega.{arith}
use lib.ListN.{length, set, replicate, length-append}
use lib.Seq.{set-append_seam}
use Rattle.section.specs.declared.Layer.{Layer}
use Rattle.section.specs.Section.{no_layer}
use Rattle.record.specs.Map.{stands, offset}
use Rattle.record.specs.Fields.{layer_bit}
use Rattle.record.specs.Contents.{layer_at, layers_to, filled}

-- one bit more
module _ (xs : List ℕ) (m j : ℕ) where
  step : layers_to xs m (j + 1) ≡ layers_to xs m j ++ cond (stands m (layer_bit j)) (layer_at xs (offset m (layer_bit j)) ∷ []) []
  unfolding layers_to
  step = ap (layers_to xs m) (add-one j)

  pub layers_yes : stands m (layer_bit j) ≡ true → layers_to xs m (j + 1) ≡ layers_to xs m j ++ (layer_at xs (offset m (layer_bit j)) ∷ [])
  layers_yes t = step ∙ ap (λ (b : Bool). layers_to xs m j ++ cond b (layer_at xs (offset m (layer_bit j)) ∷ []) []) t

  pub layers_no : stands m (layer_bit j) ≡ false → layers_to xs m (j + 1) ≡ layers_to xs m j
  layers_no t = step ∙ ap (λ (b : Bool). layers_to xs m j ++ cond b (layer_at xs (offset m (layer_bit j)) ∷ []) []) t ∙ append-nil (layers_to xs m j)

-- one layer more in the places
pub filled_more : (ls : List Layer) (l : Layer) → length ls < 16 → set (filled ls) (length ls) l ≡ filled (ls ++ (l ∷ []))
unfolding filled
filled_more ls l h =
    let e : 16 - length ls ≡ suc (15 - length ls) = omega arith in
    let g : 15 - length ls ≡ 16 - (length ls + 1) = omega arith in
    ap (λ (k : ℕ). set (ls ++ replicate k no_layer) (length ls) l) e
    ∙ set-append_seam ls no_layer (replicate (15 - length ls) no_layer) l
    ∙ ap (λ (k : ℕ). ls ++ (l ∷ replicate k no_layer)) (g ∙ ap (λ (k : ℕ). 16 - k) (sym (length-append ls (l ∷ []))))
    ∙ sym (append_assoc ls (l ∷ []) (replicate (16 - length (ls ++ (l ∷ []))) no_layer))
