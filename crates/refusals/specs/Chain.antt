-- Tests in their sequence: "The first test of a call's sequence that fails gives the refusal, and no refusal comes in any other way"
-- (document 01). Assumes nothing.
use Rattle.std.specs.Prelude.{ℕ, Bool, true, false, cond, List, [], ◌∷◌, T, eqb, Option, None, Some}
use Rattle.std.specs.Option.{option_or}
use Rattle.refusals.specs.declared.Refusal.{Refusal}
use Rattle.refusals.specs.Number.{number_of}

-- what a test says: its refusal where it fails, none where it is passed
abbrev pub test : Refusal → Bool → Option Refusal
test r passed = cond passed None (Some r)

-- the first test of a sequence that fails, none where none does
abbrev pub first_failing : List (Option Refusal) → Option Refusal
first_failing [] = None
first_failing (t ∷ ts) = option_or t (first_failing ts)

-- n is the number of one of the refusals
abbrev pub is_number_of : List Refusal → ℕ → Bool
is_number_of [] n = false
is_number_of (r ∷ rs) n = cond (eqb n (number_of r)) true (is_number_of rs n)

-- r is one of the refusals
pub record OneOf (rs : List Refusal) (r : Refusal) : Type 0 where
  pub member : T (is_number_of rs (number_of r))
