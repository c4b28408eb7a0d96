-- The section turned over, as its bottom face sees it: every d becomes h − d (document 01, for M < 0; 02's ticket 1, for both faces).
-- Assumes nothing.
use Rattle.std.specs.Prelude.{ℕ, ◌-◌, List, [], ◌∷◌}
use Rattle.section.specs.declared.Layer.{Layer}

abbrev pub turned_layer : ℕ → Layer → Layer
turned_layer h l = record { depth = h - l.depth; area = l.area }

unfoldable pub turned : ℕ → List Layer → List Layer
turned h [] = []
turned h (l ∷ ls) = turned_layer h l ∷ turned h ls
