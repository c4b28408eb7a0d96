-- The table of fields: the layers in it, and what is beyond it. Assumes nothing.
use mathlib.Core.Path.{◌≡◌, sym, ap, ◌∙◌}
use mathlib.Core.Bool.{Bool, true, false}
use Prim.Native.Nat.{ℕ, ◌+◌, ◌-◌, ◌≤◌, ◌<◌}
use native.Mathlib.Decide.{dec_lt}
use native.Mathlib.Omega.{arith}
use lib.Dec.{T, eqb, eqb→eq}
use lib.ListN.{get_or-eq_default}
use Rattle.arith.proofs.Computed.{below}
use Rattle.arith.proofs.Test.{clash}
use Rattle.record.specs.declared.fields.Field.{Field}
use Rattle.record.specs.declared.fields.Field.TheVariants.{Must, May, LinkPair, LayerAt, Unused}
use Rattle.record.specs.Fields.{table, width, field_of, layer_bit, is_number}

abbrev layer_is : Field → ℕ → Bool
layer_is (Must x) j = false
layer_is (May x d) j = false
layer_is LinkPair j = false
layer_is (LayerAt i) j = eqb i j
layer_is Unused j = false

is_layer : (f : Field) (j : ℕ) → T (layer_is f j) → f ≡ LayerAt j
is_layer (Must x) j t = absurd t
is_layer (May x d) j t = absurd t
is_layer LinkPair j t = absurd t
is_layer (LayerAt i) j t = ap LayerAt (eqb→eq i j t)
is_layer Unused j t = absurd t

pub layer_field : (j : ℕ) → j < 16 → field_of (layer_bit j) ≡ LayerAt j
layer_field j h = is_layer (field_of (layer_bit j)) j (below (λ (j : ℕ). layer_is (field_of (layer_bit j)) j) 16 j tt h)

-- bits 8 to 23, by the bit
pub layer-at_bit : (k : ℕ) → 8 ≤ k → k < 24 → LayerAt (k - 8) ≡ field_of k
layer-at_bit k h g =
    let e : 8 + (k - 8) ≡ k = omega arith in
    sym (layer_field (k - 8) (omega arith)) ∙ ap field_of e

pub beyond : (k : ℕ) → width ≤ k → Unused ≡ field_of k
beyond k h = sym (get_or-eq_default table Unused h)

pub within : (k : ℕ) → is_number (field_of k) ≡ true → k < width
within k e = go (dec_lt k width)
  where
    go : Dec (k < width) → k < width
    go (yes h) = h
    go (no h) = absurd (clash e (ap is_number (sym (beyond k (omega arith)))))
