-- The length of a repeat, by its law, since antt does not compute a list of so many.
use Rattle.std.proofs.Common.{ℕ, sym}
use lib.ListN.{length-replicate}
use Rattle.check_list.proofs.text_buffer.Goals as goal

pub returns : goal.returns
returns c = sym (length-replicate {A = ℕ} _ 0)
