-- A line of the list: document 01, "The list"; six verdicts by 02's ticket 3. Assumes nothing.
use Rattle.std.specs.Prelude.{ℕ, List, [], ◌∷◌, ◌++◌, map}
use Rattle.clauses.specs.declared.Listed.{Listed}
use Rattle.listing.specs.Text.{natural, integer}

-- 32 is a space, 10 a newline
abbrev pub newline : List ℕ
newline = 10 ∷ []

-- words, each after a single space, and what follows them
abbrev pub spaced : List (List ℕ) → List ℕ → List ℕ
spaced [] end = end
spaced (w ∷ ws) end = 32 ∷ (w ++ spaced ws end)

-- refusal or 0, u, MRd, VRd,c, dm, As, the verdicts
abbrev pub words : Listed → List (List ℕ)
words a =
    natural a.refusal ∷ natural a.u ∷ integer a.mrd ∷ natural a.vrd ∷ natural a.dm ∷ natural a.area
    ∷ map natural a.verdicts

-- the line with the number k
unfoldable pub line : ℕ → Listed → List ℕ
line k a = natural k ++ spaced (words a) newline
