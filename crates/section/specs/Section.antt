-- What is read of a section: document 01, "What the engine covers", and 02's ticket 3 for the links. Assumes nothing.
use Rattle.std.specs.Prelude.{ℕ, Bool, cond, ◌&&◌, List, eqb, leb, ltb, ℤ, take}
use Rattle.arith.specs.Every.{every}
use Rattle.materials.specs.declared.Grade.{Grade}
use Rattle.section.specs.declared.Layer.{Layer}
use Rattle.section.specs.declared.Links.{Links}
use Rattle.section.specs.declared.Section.{Section}

-- a place that holds no layer
abbrev pub no_layer : Layer
no_layer = record { depth = 0; area = 0 }

-- the counted layers: places beyond the count are never read
abbrev pub layers_of : Section → List Layer
layers_of s = take s.count s.layers

-- all that is read of a section besides its links. Sections that differ only beyond the count are the same here.
pub record Counted : Type 0 where
  pub width : ℤ
  pub height : ℤ
  pub grade : Grade
  pub count : ℕ
  pub layers : List Layer

abbrev pub counted : Section → Counted
counted s = record { width = s.width; height = s.height; grade = s.grade; count = s.count; layers = layers_of s }

-- a test over layers asks about all of them
abbrev pub all : (Layer → Bool) → List Layer → Bool
all p ls = every p ls

-- a depth from 1 to h − 1
abbrev pub depth_ok : ℕ → Layer → Bool
depth_ok h l = leb 1 l.depth && ltb l.depth h

-- an area from 1 to 20,000
abbrev pub area_ok : Layer → Bool
area_ok l = leb 1 l.area && leb l.area 20000

-- ---- the links, which Find a depth and Moment at a depth do not look at

-- present or absent as a whole: 0 is absent, any other number present
abbrev pub absent : Links → Bool
absent k = eqb k.present 0

abbrev pub no_links : Links
no_links = record { present = 0; area = 0; spacing = 0 }

abbrev pub links_with : ℕ → ℕ → Links
links_with area spacing = record { present = 1; area = area; spacing = spacing }

-- all that is read of links. Absent links are the same here, whatever their numbers.
abbrev pub counted_links : Links → Links
counted_links k = cond (absent k) no_links (links_with k.area k.spacing)

abbrev pub links_of : Section → Links
links_of s = counted_links s.links

-- an area from 1 to 5,000 mm²
abbrev pub link_area_ok : Links → Bool
link_area_ok k = leb 1 k.area && leb k.area 5000

-- a spacing from 25 to 1,000 mm
abbrev pub link_spacing_ok : Links → Bool
link_spacing_ok k = leb 25 k.spacing && leb k.spacing 1000
