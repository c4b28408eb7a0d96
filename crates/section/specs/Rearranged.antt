-- The same bars typed in another sequence: document 02, ticket 2. Assumes nothing.
use Rattle.std.specs.Prelude.{Bool, ◌&&◌, ◌≡◌, eqb}
use Rattle.arith.specs.Rearranged.{Rearranged}
use Rattle.section.specs.declared.Layer.{Layer}
use Rattle.section.specs.Section.{Counted}

-- Of two sections, as they are read: the counted layers of one are a rearrangement of the other's, and all other fields are equal. (The number of
-- layers is asked for by itself: above 16 the counted layers are all sixteen places and do not show it.)
pub record SameBars (c d : Counted) : Type 0 where
  pub width : c.width ≡ d.width
  pub height : c.height ≡ d.height
  pub grade : c.grade ≡ d.grade
  pub count : c.count ≡ d.count
  pub layers : Rearranged c.layers d.layers

-- equal layers, as a test
abbrev pub same_layer : Layer → Layer → Bool
same_layer k l = eqb k.depth l.depth && eqb k.area l.area
