-- The bytes are copied.
use Rattle.std.proofs.Common.{List, ℕ, ◌++◌, ap, refl, drop}
use Rattle.record.specs.Bytes.{placed}
use Rattle.check_list.proofs.put_first_line.Goals as goal

pub returns : goal.returns
unfolding placed
returns c = record { end = refl; bytes = ap (λ (l : List ℕ). l ++ drop 42 c.args.text.now) c.copy_from_slice.ensures.after }
