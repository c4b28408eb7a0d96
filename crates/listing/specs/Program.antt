-- What the check list program prints: document 01, "The list" and "List program"; v6 by 02's ticket 3. Assumes nothing.
use Rattle.std.specs.Prelude.{ℕ, cond, List, [], ◌∷◌, ◌++◌, leb, length}
use Rattle.clauses.specs.Check.{refused_listed}
use Rattle.listing.specs.Line.{line}
use Rattle.listing.specs.Records.{list_of}

-- `rec ref u mrd vrd dm as v1 v2 v3 v4 v5 v6` and a newline, in the bytes of ASCII: a word to a row, and what follows it
abbrev pub first_line : List ℕ
first_line =
    114 ∷ 101 ∷ 99 ∷ 32
    ∷ 114 ∷ 101 ∷ 102 ∷ 32
    ∷ 117 ∷ 32
    ∷ 109 ∷ 114 ∷ 100 ∷ 32
    ∷ 118 ∷ 114 ∷ 100 ∷ 32
    ∷ 100 ∷ 109 ∷ 32
    ∷ 97 ∷ 115 ∷ 32
    ∷ 118 ∷ 49 ∷ 32
    ∷ 118 ∷ 50 ∷ 32
    ∷ 118 ∷ 51 ∷ 32
    ∷ 118 ∷ 52 ∷ 32
    ∷ 118 ∷ 53 ∷ 32
    ∷ 118 ∷ 54 ∷ 10
    ∷ []

-- for 26 the one further line has number 0
abbrev pub too_long : List ℕ
too_long = line 0 (refused_listed 26)

-- the text for an input: its first line, then the list; 26 for standard input above 65,536 bytes
unfoldable pub printed_of : List ℕ → List ℕ
printed_of xs = first_line ++ cond (leb (length xs) 65536) (list_of xs) too_long
