-- The bit of the links has its eight bytes within the record where it stands.
use mathlib.Core.Path.{sym, ◌∙◌}
use Prim.Native.Nat.{◌+◌, ◌≤◌}
use native.Mathlib.Omega.{arith}
use lib.ListN.{length}
use Rattle.record.specs.Fields.{link_bit}
use Rattle.record.specs.Map.{offset}
use Rattle.record.proofs.Bits.{room}
use Rattle.record.proofs.reader.Mapped.links.Goals as goal
use Rattle.record.proofs.reader.Mapped.links.Goals.{Then-bit_stands}

has_room : (c : Then-bit_stands) → offset c.args.self.now.map link_bit + 8 ≤ length c.args.self.now.bytes.now
has_room c =
    let r = c.args.self.now in
    let t = sym c.bit_stands.ensures ∙ c.if-bit_stands.true in
    room r.map link_bit (length r.bytes.now) (omega arith) t r.whole

pub u32_at-requires : goal.u32_at-requires
u32_at-requires c = omega (arith, has_room (goal.at.u32_at-requires c).Then-bit_stands, c.field_offset-at.ensures)

pub overflow_add-at : goal.overflow_add-at
overflow_add-at c = omega (arith, has_room (goal.at.overflow_add-at c).Then-bit_stands, c.field_offset-at.ensures)

pub u32_at-requires-then-bit_stands : goal.u32_at-requires-then-bit_stands
u32_at-requires-then-bit_stands c = omega (arith, has_room (goal.at.u32_at-requires-then-bit_stands c).Then-bit_stands, c.field_offset-at.ensures)
