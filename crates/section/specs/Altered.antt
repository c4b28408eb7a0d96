-- A section with one layer altered: document 02, ticket 9. Assumes nothing.
use Rattle.std.specs.Prelude.{ℕ, ◌+◌, Bool, cond, [], ◌∷◌, ◌++◌, eqb, leb, set}
use Rattle.section.specs.declared.Layer.{Layer}
use Rattle.section.specs.Section.{Counted}

-- a place of a layer, or the one after the last
abbrev pub place_ok : ℕ → Counted → Bool
place_ok place c = leb place c.count

-- "replacing one layer, named by its place from 0, with another depth and area"
abbrev pub replaced : ℕ → Layer → Counted → Counted
replaced place l c =
    record { width = c.width; height = c.height; grade = c.grade; count = c.count; layers = set c.layers place l }

-- with one layer more, which stands last
abbrev pub added : Layer → Counted → Counted
added l c =
    record { width = c.width; height = c.height; grade = c.grade; count = c.count + 1; layers = c.layers ++ (l ∷ []) }

-- "A place equal to the number of layers adds one"; beyond the number, where 33 comes before, nothing is altered
abbrev pub altered : ℕ → Layer → Counted → Counted
altered place l c = cond (eqb place c.count) (added l c) (replaced place l c)
