-- What the program knows of its input. Assumes nothing.
use Rattle.std.specs.Prelude.{ℕ, ◌≤◌, ◌<◌, List, ◌≡◌, length, take, Option, MatchOption}
use Rattle.std.specs.Borrow.{Bor}

-- The first n bytes of xs are n bytes: all of them are there. The second part follows from the first.
abbrev pub IsPrefixLen : ℕ → List ℕ → Type 0
IsPrefixLen n xs = (n ≤ length xs) × (n ≡ length (take n xs))

-- The bytes xs that a reader had, by what is in hand of them: those in hand are all; or there are more than `room`, and none is in hand.
abbrev pub Had : Option (Bor (List ℕ)) → ℕ → List ℕ → Type 0
Had taken room xs = MatchOption taken (room < length xs) (λ hand. xs ≡ hand.now)
