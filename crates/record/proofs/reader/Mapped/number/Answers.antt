-- The bit of a number is one of the table's, and where it stands its eight bytes are within the record.
use mathlib.Core.Path.{sym, ◌∙◌}
use Prim.Native.Nat.{◌<◌}
use native.Mathlib.Omega.{arith}
use lib.ListN.{length}
use Rattle.record.proofs.Bits.{room}
use Rattle.record.proofs.Table.{within}
use Rattle.record.proofs.reader.Mapped.number.Goals as goal

pub bit_stands-requires : goal.bit_stands-requires
bit_stands-requires c = omega (arith, within c.args.k c.requires)

pub field_offset-requires : goal.field_offset-requires
field_offset-requires c = omega (arith, within c.args.k c.requires)

pub i64_at-requires : goal.i64_at-requires
i64_at-requires c =
    let r = c.args.self.now in
    let t = sym c.bit_stands.ensures ∙ c.if-bit_stands.true in
    let low : c.args.k < 32 = omega (arith, within c.args.k c.requires) in
    omega (arith, room r.map c.args.k (length r.bytes.now) low t r.whole, c.field_offset.ensures)
