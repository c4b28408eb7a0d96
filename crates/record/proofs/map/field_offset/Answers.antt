-- The count of ones of the lower bits is the number of them that stand.
use mathlib.Core.Path.{ap, ◌∙◌}
use Prim.Native.Nat.{ℕ, ◌+◌, ◌*◌, ◌%◌}
use lib.Count.{ones}
use Rattle.record.proofs.Bits.{ones_mod, shl_one}
use Rattle.record.proofs.map.field_offset.Goals as goal

pub returns : goal.returns
returns c =
    ap (λ (x : ℕ). 4 + 8 * ones (c.args.map % x)) (shl_one c.args.k c.requires)
    ∙ ap (λ (x : ℕ). 4 + 8 * x) (ones_mod c.args.k c.args.map)
