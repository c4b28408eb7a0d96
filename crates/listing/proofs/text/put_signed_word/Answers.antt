-- A space, and the text of the number.
use mathlib.Core.Path.{ap}
use native.Mathlib.Omega.{arith}
use mir.Facts.{to_z-of_z}
use Rattle.listing.specs.Text.{integer}
use Rattle.listing.proofs.Finishing.{same_text, then}
use Rattle.listing.proofs.text.put_signed_word.Goals as goal

pub returns : goal.returns
returns c =
    then (omega (arith, c.requires)) c.put_byte-sign.ensures (same_text (ap integer (to_z-of_z c.ranges.x)) c.put_integer.ensures)
