-- The map and the fields of the record that is written. Assumes nothing.
use mathlib.Core.Path.{◌≡◌, refl, sym, ap, ap₂, ◌∙◌}
use mathlib.Core.Bool.{Bool, true, false, cond}
use mathlib.Core.List.{List, [], ◌++◌, append-nil}
use Prim.Native.Nat.{ℕ, zero, suc, ◌+◌, ◌*◌, ◌/◌, ◌%◌, ◌^◌, ◌<◌}
use native.Mathlib.Nat.{mod-lt, mul-add, add-zero}
use native.Mathlib.Numerals.{add-one}
use native.Mathlib.Omega.{arith}
use lib.Dec.{eqb, lit<, lit≤}
use lib.ListN.{length, get_or, length-append}
use Rattle.section.specs.Section.{Counted, no_layer}
use Rattle.section.specs.declared.Links.{Links}
use Rattle.section.specs.declared.Load.{Load}
use Rattle.sequence.specs.Order.{sequenced_layers}
use Rattle.record.specs.declared.fields.Field.{Field}
use Rattle.record.specs.declared.fields.Field.TheVariants.{Must, May, LinkPair, LayerAt, Unused}
use Rattle.record.specs.Bytes.{bytes_of}
use Rattle.record.specs.Map.{stands, standing, record_length, map_with}
use Rattle.record.specs.Fields.{width, field_of}
use Rattle.record.specs.Layout.{field_bytes, writes, map_of, fields_to, fields, record_of}
use Rattle.record.proofs.Bits.{map_below, map-stands, standing-below}
use Rattle.record.proofs.Digits.{length_bytes}

-- ---- the map
module _ (p : ℕ → Bool) (k : ℕ) where
  pub map_yes : p k ≡ true → map_with p (k + 1) ≡ map_with p k + 2 ^ k
  unfolding map_with
  map_yes t = ap (map_with p) (add-one k) ∙ ap (λ (b : Bool). map_with p k + cond b (2 ^ k) 0) t

  pub map_no : p k ≡ false → map_with p (k + 1) ≡ map_with p k
  unfolding map_with
  map_no t = ap (map_with p) (add-one k) ∙ ap (λ (b : Bool). map_with p k + cond b (2 ^ k) 0) t ∙ add-zero (map_with p k)

module _ (c : Counted) (links : Links) (l : Load) where
  abbrev written : ℕ → Bool
  written k = writes c links l (field_of k)

  pub map-small : map_of c links l < 2 ^ width
  unfolding map_of
  map-small = map_below written width

  -- it says how many the layers are, and not which
  pub map_sequenced : map_of (sequenced_layers c) links l ≡ map_of c links l
  unfolding map_of
  map_sequenced = refl

  pub stands-written : (k : ℕ) → k < width → stands (map_of c links l) k ≡ writes c links l (field_of k)
  unfolding map_of
  stands-written k h = map-stands written width k h

-- ---- the fields

pub length_field : (c : Counted) (links : Links) (l : Load) (x : Field) → length (field_bytes c links l x) ≡ 8
length_field c links l (Must x) = length_bytes 8 _
length_field c links l (May x d) = length_bytes 8 _
length_field c links l LinkPair = simp (length-append, length_bytes)
length_field c links l (LayerAt j) = let y = get_or c.layers j no_layer in simp (length-append, length_bytes)
length_field c links l Unused = length_bytes 8 0

module _ (m : ℕ) (f : ℕ → List ℕ) where
  pub fields_yes : (k : ℕ) → stands m k ≡ true → fields_to m f (k + 1) ≡ fields_to m f k ++ f k
  unfolding fields_to
  fields_yes k t = ap (fields_to m f) (add-one k) ∙ ap (λ (b : Bool). fields_to m f k ++ cond b (f k) []) t

  pub fields_no : (k : ℕ) → stands m k ≡ false → fields_to m f (k + 1) ≡ fields_to m f k
  unfolding fields_to
  fields_no k t = ap (fields_to m f) (add-one k) ∙ ap (λ (b : Bool). fields_to m f k ++ cond b (f k) []) t ∙ append-nil (fields_to m f k)

  pub length_fields : ((k : ℕ) → length (f k) ≡ 8) → (k : ℕ) → length (fields_to m f k) ≡ 8 * standing m k
  unfolding fields_to standing
  length_fields eight zero = refl
  length_fields eight (suc k) =
      length-append (fields_to m f k) (cond (stands m k) (f k) [])
      ∙ ap₂ (λ (a b : ℕ). a + b) (length_fields eight k) (chosen (m / 2 ^ k % 2) (f k) (mod-lt (m / 2 ^ k) (lit< tt)) (eight k))
      ∙ sym (mul-add 8 (standing m k) (m / 2 ^ k % 2))
    where
      chosen : (d : ℕ) (ys : List ℕ) → d < 2 → length ys ≡ 8 → length (cond (eqb d 1) ys []) ≡ 8 * d
      chosen zero ys h e = refl
      chosen (suc zero) ys h e = e
      chosen (suc (suc d)) ys h e = absurd (omega arith)

-- the length follows from the map
pub length_record : (c : Counted) (links : Links) (l : Load) → length (record_of c links l) ≡ record_length (map_of c links l)
unfolding record_of fields
length_record c links l =
    length-append (bytes_of 4 (map_of c links l)) (fields_to (map_of c links l) (λ k. field_bytes c links l (field_of k)) width)
    ∙ ap₂ (λ (a b : ℕ). a + b) (length_bytes 4 (map_of c links l))
    (length_fields (map_of c links l) (λ k. field_bytes c links l (field_of k)) (λ k. length_field c links l (field_of k)) width
    ∙ ap (λ (n : ℕ). 8 * n) (sym (standing-below (map_of c links l) width (lit≤ tt) (map-small c links l))))
