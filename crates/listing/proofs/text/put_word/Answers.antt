-- A space, and the text of the number.
use native.Mathlib.Omega.{arith}
use Rattle.listing.proofs.Finishing.{then}
use Rattle.listing.proofs.text.put_word.Goals as goal

pub returns : goal.returns
returns c =
    then (omega (arith, c.requires)) c.put_byte-digits.ensures c.put_natural.ensures
