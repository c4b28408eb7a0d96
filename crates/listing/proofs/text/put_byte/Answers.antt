-- The byte is stored.
use native.Mathlib.Omega.{arith}
use Rattle.listing.proofs.Finishing.{stored}
use Rattle.listing.proofs.text.put_byte.Goals as goal

pub returns : goal.returns
returns c = stored _ _ _ (omega arith)
