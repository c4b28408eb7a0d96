-- The table of fields, from which reading and writing are both defined: document 01, "The record", and 02's tickets 3 for bit 7, 8 for
-- bit 24 and 10 for bit 25. Assumes nothing.
use Rattle.std.specs.Prelude.{ℕ, ◌+◌, Bool, true, false, List, [], ◌∷◌, ℤ, pos, length, get_or}
use Rattle.record.specs.declared.fields.Number.TheVariants.{Width, Height, Fck, Fyk, Axial, Moment, Shear, Situation, LongTerm}
use Rattle.record.specs.declared.fields.Field.{Field}
use Rattle.record.specs.declared.fields.Field.TheVariants.{Must, May, LinkPair, LayerAt, Unused}

-- THE TABLE, from bit 0 on
abbrev pub table : List Field
table =
    -- b, h, fck and fyk must stand
    Must Width ∷ Must Height ∷ Must Fck ∷ Must Fyk
    -- N, M or V may be missing and is then 0
    ∷ May Axial (pos 0) ∷ May Moment (pos 0) ∷ May Shear (pos 0)
    -- bit 7: the links, missing where there are none
    ∷ LinkPair
    -- bits 8 to 23: layers
    ∷ LayerAt 0 ∷ LayerAt 1 ∷ LayerAt 2 ∷ LayerAt 3 ∷ LayerAt 4 ∷ LayerAt 5 ∷ LayerAt 6 ∷ LayerAt 7
    ∷ LayerAt 8 ∷ LayerAt 9 ∷ LayerAt 10 ∷ LayerAt 11 ∷ LayerAt 12 ∷ LayerAt 13 ∷ LayerAt 14 ∷ LayerAt 15
    -- bit 24: the situation; a missing value means 1
    ∷ May Situation (pos 1)
    -- bit 25: αcc in hundredths; missing means 100
    ∷ May LongTerm (pos 100)
    ∷ []

-- how many bits it names; no bit from there on has a field
abbrev pub width : ℕ
width = length table

-- the field of bit k
abbrev pub field_of : ℕ → Field
field_of k = get_or table k Unused

-- the bit of the links
abbrev pub link_bit : ℕ
link_bit = 7

-- the bit of the layer at a place, from 0
abbrev pub layer_bit : ℕ → ℕ
layer_bit j = 8 + j

abbrev pub must_stand : Field → Bool
must_stand (Must x) = true
must_stand (May x d) = false
must_stand LinkPair = false
must_stand (LayerAt j) = false
must_stand Unused = false

abbrev pub is_number : Field → Bool
is_number (Must x) = true
is_number (May x d) = true
is_number LinkPair = false
is_number (LayerAt j) = false
is_number Unused = false

-- what a number is where its bit does not stand
abbrev pub missing : Field → ℤ
missing (Must x) = pos 0
missing (May x d) = d
missing LinkPair = pos 0
missing (LayerAt j) = pos 0
missing Unused = pos 0
