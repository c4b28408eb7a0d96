-- What a record holds: document 01, "The record", and 02's tickets 3, 8 and 10. Of the bytes xs with the map m. Assumes nothing.
use Rattle.std.specs.Prelude.{ℕ, zero, suc, ◌+◌, ◌-◌, cond, List, [], ◌∷◌, ◌++◌, ℤ, pos, length, replicate}
use Rattle.section.specs.Section.{no_layer, no_links, links_with}
use Rattle.section.specs.declared.Layer.{Layer}
use Rattle.section.specs.declared.Links.{Links}
use Rattle.section.specs.declared.Section.{Section}
use Rattle.section.specs.declared.Load.{Load}
use Rattle.record.specs.Bytes.{number_at, signed}
use Rattle.record.specs.Map.{stands, offset}
use Rattle.record.specs.Fields.{field_of, link_bit, layer_bit, is_number, missing}

-- the number of bit k, where its field is one: eight bytes, signed. One that is missing is what the table says; a present one is read.
abbrev pub number_of : List ℕ → ℕ → ℕ → ℤ
number_of xs m k = cond (is_number (field_of k)) (cond (stands m k) (signed (number_at xs (offset m k) 8)) (missing (field_of k))) (pos 0)

-- links: an unsigned 4-byte area and then 4-byte spacing; present where bit 7 stands
abbrev pub links_at : List ℕ → ℕ → Links
links_at xs at = links_with (number_at xs at 4) (number_at xs (at + 4) 4)

abbrev pub links_in : List ℕ → ℕ → Links
links_in xs m = cond (stands m link_bit) (links_at xs (offset m link_bit)) no_links

-- a layer: an unsigned 4-byte depth and then 4-byte area
abbrev pub layer_at : List ℕ → ℕ → Layer
layer_at xs at = record { depth = number_at xs at 4; area = number_at xs (at + 4) 4 }

-- the layers of the first j layer bits, by rising bit; layer bits may have gaps
unfoldable pub layers_to : List ℕ → ℕ → ℕ → List Layer
layers_to xs m zero = []
layers_to xs m (suc j) = layers_to xs m j ++ cond (stands m (layer_bit j)) (layer_at xs (offset m (layer_bit j)) ∷ []) []

abbrev pub layers_in : List ℕ → ℕ → List Layer
layers_in xs m = layers_to xs m 16

-- the sixteen places of a section: a record that is read leaves zeros beyond the count
unfoldable pub filled : List Layer → List Layer
filled ls = ls ++ replicate (16 - length ls) no_layer

-- Bits 0 to 6: b, h, fck, fyk, N, M, V; bit 24: the situation; bit 25: αcc. A section and a load with the numbers of their bits.
abbrev pub section_with : (ℕ → ℤ) → Links → List Layer → Section
section_with number links ls =
    record {
      layers = filled ls;
      width = number 0;
      height = number 1;
      grade = record { fck = number 2; fyk = number 3; situation = number 24; alphacc = number 25 };
      links = links;
      count = length ls;
    }

abbrev pub load_with : (ℕ → ℤ) → Load
load_with number = record { n = number 4; m = number 5; v = number 6 }

unfoldable pub section_of : List ℕ → ℕ → Section
section_of xs m = section_with (number_of xs m) (links_in xs m) (layers_in xs m)

unfoldable pub load_of : List ℕ → ℕ → Load
load_of xs m = load_with (number_of xs m)
