-- One digit, or the digits of n / 10 and the last one.
use mathlib.Core.Path.{sym, ap}
use native.Mathlib.Omega.{arith}
use lib.ListN.{length}
use Rattle.listing.proofs.Decimal.{natural-one, natural_more, length_more}
use Rattle.listing.proofs.Finishing.{same_text, then}
use Rattle.listing.proofs.text.+put_natural.Goals as goal

pub put_byte-requires : goal.put_byte-requires
put_byte-requires t c = omega (arith, ap length (natural-one c.args.n c.if-n-lt10.true), c.requires)

pub put_natural-last-requires : goal.put_natural-last-requires
put_natural-last-requires t c = (omega (arith, c.decreases, c.if-n-lt10.false), omega (arith, length_more c.args.n c.if-n-lt10.false, c.requires))

pub put_byte-requires-else-n-lt10 : goal.put_byte-requires-else-n-lt10
put_byte-requires-else-n-lt10 t c =
    omega (arith, length_more c.args.n c.if-n-lt10.false, c.requires, c.put_natural-last.ensures.end, c.put_natural-last.auto.out)

pub returns-then-n-lt10 : goal.returns-then-n-lt10
returns-then-n-lt10 t c = same_text (sym (natural-one c.args.n c.if-n-lt10.true)) c.put_byte.ensures

pub returns-else-n-lt10 : goal.returns-else-n-lt10
returns-else-n-lt10 t c =
    let more = c.if-n-lt10.false in
    same_text (sym (natural_more c.args.n more))
    (then (omega (arith, length_more c.args.n more, c.requires)) c.put_natural-last.ensures c.put_byte-else-n-lt10.ensures)
