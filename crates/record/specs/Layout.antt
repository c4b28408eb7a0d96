-- The record of a section and a load, its layers as they stand: document 01, "The record", and 02's tickets 3, 8 and 10. (Write puts them in sequence
-- before: the page `Write`.) Assumes nothing.
use Rattle.std.specs.Prelude.{ℕ, zero, suc, Bool, true, false, cond, not, List, [], ◌++◌, ltb, ℤ, get_or}
use Rattle.arith.specs.Integer.{in_range}
use Rattle.section.specs.Section.{Counted, no_layer, absent}
use Rattle.section.specs.declared.Layer.{Layer}
use Rattle.section.specs.declared.Links.{Links}
use Rattle.section.specs.declared.Load.{Load}
use Rattle.record.specs.declared.fields.Number.{Number}
use Rattle.record.specs.declared.fields.Number.TheVariants.{Width, Height, Fck, Fyk, Axial, Moment, Shear, Situation, LongTerm}
use Rattle.record.specs.declared.fields.Field.{Field}
use Rattle.record.specs.declared.fields.Field.TheVariants.{Must, May, LinkPair, LayerAt, Unused}
use Rattle.record.specs.Bytes.{bytes_of, unsigned}
use Rattle.record.specs.Map.{stands, map_with}
use Rattle.record.specs.Fields.{width, field_of}

-- the numbers of a section and a load
abbrev pub value_of : Counted → Load → Number → ℤ
value_of c l Width = c.width
value_of c l Height = c.height
value_of c l Fck = c.grade.fck
value_of c l Fyk = c.grade.fyk
value_of c l Axial = l.n
value_of c l Moment = l.m
value_of c l Shear = l.v
value_of c l Situation = c.grade.situation
value_of c l LongTerm = c.grade.alphacc

-- the eight bytes of a field: the links' area and then their spacing, a layer's depth and then its area. Where there is no field they are
-- never written.
abbrev pub link_bytes : Links → List ℕ
link_bytes k = bytes_of 4 k.area ++ bytes_of 4 k.spacing

abbrev pub layer_bytes : Layer → List ℕ
layer_bytes y = bytes_of 4 y.depth ++ bytes_of 4 y.area

abbrev pub field_bytes : Counted → Links → Load → Field → List ℕ
field_bytes c links l (Must x) = bytes_of 8 (unsigned (value_of c l x))
field_bytes c links l (May x d) = bytes_of 8 (unsigned (value_of c l x))
field_bytes c links l LinkPair = link_bytes links
field_bytes c links l (LayerAt j) = layer_bytes (get_or c.layers j no_layer)
field_bytes c links l Unused = bytes_of 8 0

-- the writer omits a number that is what a missing one is (in_range d d: it is d) and links that are absent, and uses the lowest layer bits
abbrev pub writes : Counted → Links → Load → Field → Bool
writes c links l (Must x) = true
writes c links l (May x d) = not (in_range d d (value_of c l x))
writes c links l LinkPair = not (absent links)
writes c links l (LayerAt j) = ltb j c.count
writes c links l Unused = false

unfoldable pub map_of : Counted → Links → Load → ℕ
map_of c links l = map_with (λ k. writes c links l (field_of k)) width

-- the bytes of the bits below k that stand, lowest bit first
unfoldable pub fields_to : ℕ → (ℕ → List ℕ) → ℕ → List ℕ
fields_to m f zero = []
fields_to m f (suc k) = fields_to m f k ++ cond (stands m k) (f k) []

unfoldable pub fields : Counted → Links → Load → List ℕ
fields c links l = fields_to (map_of c links l) (λ k. field_bytes c links l (field_of k)) width

-- the record: the map comes first
unfoldable pub record_of : Counted → Links → Load → List ℕ
record_of c links l = bytes_of 4 (map_of c links l) ++ fields c links l
