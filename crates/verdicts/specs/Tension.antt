-- Tension reinforcement: document 01, "Verdicts". Assumes nothing.
use Rattle.std.specs.Prelude.{ℕ, ◌+◌, ◌*◌, ◌/◌, Bool, cond, List, [], ◌∷◌, ltb}
use Rattle.section.specs.declared.Layer.{Layer}

-- tension layers are those with 10·d > u
abbrev pub in_tension : ℕ → Layer → Bool
in_tension u l = ltb u (10 * l.depth)

unfoldable pub tension_layers : ℕ → List Layer → List Layer
tension_layers u [] = []
tension_layers u (l ∷ ls) = cond (in_tension u l) (l ∷ tension_layers u ls) (tension_layers u ls)

-- a number of each layer, summed
unfoldable pub total : (Layer → ℕ) → List Layer → ℕ
total f [] = 0
total f (l ∷ ls) = f l + total f ls

-- the area of all layers of a list, and the first moment of that area about the face from which depths are measured
abbrev pub area_of : List Layer → ℕ
area_of ls = total (λ l. l.area) ls

abbrev pub first_moment : List Layer → ℕ
first_moment ls = total (λ l. l.area * l.depth) ls

-- the area-weighted mean depth of some layers, rounded down; of no layer 0
unfoldable pub mean_depth : List Layer → ℕ
mean_depth [] = 0
mean_depth (l ∷ ls) = first_moment (l ∷ ls) / area_of (l ∷ ls)

-- 01's As, the area of the tension layers: 0 with no tension layer
abbrev pub As : ℕ → List Layer → ℕ
As u ls = area_of (tension_layers u ls)

-- 01's dm, their mean depth: 0 with no tension layer
abbrev pub dm : ℕ → List Layer → ℕ
dm u ls = mean_depth (tension_layers u ls)
