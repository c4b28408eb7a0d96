-- The depth beyond 10h: document 02, ticket 11. Assumes nothing.
use Rattle.std.specs.Prelude.{ℕ, zero, suc, ◌+◌, ◌*◌, Bool, List, Option, None, Some, ℤ}
use Rattle.std.specs.Int.Signed.{le_z}
use Rattle.arith.specs.Greatest.{least}
use Rattle.section.specs.declared.Layer.{Layer}
use Rattle.section.specs.declared.Design.{Design}
use Rattle.beyond.specs.Force.{internal_force}

-- the number below as an answer: its 0 is none
abbrev pub some_depth : ℕ → Option ℕ
some_depth zero = None
some_depth (suc u) = Some (suc u)

module _ (x : Design) (ls : List Layer) (N : ℤ) where
  -- the internal force at u is at least N
  abbrev pub reached_at : ℕ → Bool
  reached_at u = le_z N (internal_force x ls u)

  -- "the least u beyond 10h whose force is at least N": of the 20h depths from 10h + 1 to 30h; 0 where none reaches N
  unfoldable pub least_reaching : ℕ
  least_reaching = least reached_at (10 * x.h + 1) (20 * x.h)
