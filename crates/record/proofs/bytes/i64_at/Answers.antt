-- The eight bytes as std reads them.
use mathlib.Core.Path.{ap, ◌∙◌}
use Rattle.std.specs.Int.{w64, from_be_bytes, cast_signed}
use Rattle.arith.proofs.Machine.{result}
use Rattle.record.specs.Bytes.{number_at}
use Rattle.record.proofs.Digits.{from_eight, cast-signed, number_below}
use Rattle.record.proofs.bytes.i64_at.Goals as goal

pub returns : goal.returns
returns c =
    let is = ap (from_be_bytes w64) c.bytes_at.ensures ∙ from_eight c.args.s.now c.args.at in
    result c.from_be_bytes.type_inv
    (c.from_be_bytes.ensures ∙ ap (cast_signed w64) is ∙ cast-signed (number_at c.args.s.now c.args.at 8) (number_below c.args.s.now c.args.at c.type_inv.s 8))
