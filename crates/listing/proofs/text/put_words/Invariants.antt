-- Writing the words that are left finishes the text.
use mathlib.Core.List.{List, [], map}
use Prim.Native.Nat.{ℕ}
use lib.ListN.{drop}
use Rattle.listing.specs.Text.{natural}
use Rattle.listing.specs.Line.{spaced}
use Rattle.listing.proofs.Finishing.{Left}
use Rattle.listing.proofs.text.put_words.Given as goal

-- the words from place i on
abbrev pub from : List ℕ → ℕ → List ℕ
from numbers i = spaced (map natural (drop i numbers)) []

abbrev pub invariant-loop-n : goal.invariant-loop-n
invariant-loop-n l = Left l.initial.out l.at (from l.numbers 0) l.out l.next (from l.numbers l.n-index)
