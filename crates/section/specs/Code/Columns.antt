-- The layers in two columns of numbers, the depths and the areas, of which the first n places count: how the code held them before it was given
-- slices. The laws that docs/PORT.md names speak of it. Assumes nothing.
use Rattle.std.specs.Prelude.{ℕ, zero, suc, ◌-◌, List, [], ◌∷◌, map, ◌≡◌, ℤ, length, get_or, take}
use Rattle.materials.specs.declared.Grade.{Grade}
use Rattle.section.specs.declared.Layer.{Layer}
use Rattle.section.specs.declared.Section.{Section}
use Rattle.section.specs.Section.{Counted}

-- the layer at place k
abbrev pub layer_in : List ℕ → List ℕ → ℕ → Layer
layer_in depths areas k = record { depth = get_or depths k 0; area = get_or areas k 0 }

-- the layers at n places, from k on
unfoldable pub layers_from : ℕ → ℕ → List ℕ → List ℕ → List Layer
layers_from zero k depths areas = []
layers_from (suc n) k depths areas = layer_in depths areas k ∷ layers_from n (suc k) depths areas

-- the layers that two columns hold at their first n places
abbrev pub layers_in : ℕ → List ℕ → List ℕ → List Layer
layers_in n depths areas = layers_from n 0 depths areas

-- what is read of a section whose sixteen places stand in two columns
abbrev pub in_columns : ℤ → ℤ → Grade → ℕ → List ℕ → List ℕ → Counted
in_columns width height grade count depths areas = record {
  width = width;
  height = height;
  grade = grade;
  count = count;
  layers = take count (layers_in 16 depths areas);
}

-- a section taken apart: one column holds the depths of its sixteen places, the other their areas
pub record Apart (s : Section) (depths areas : List ℕ) : Type 0 where
  pub places : length s.layers ≡ 16
  pub depths_are : depths ≡ map (λ l. l.depth) s.layers
  pub areas_are : areas ≡ map (λ l. l.area) s.layers

-- a column of depths, measured from the other face of a section with the height h
abbrev pub turned_depths : ℕ → List ℕ → List ℕ
turned_depths h depths = map (λ d. h - d) depths
