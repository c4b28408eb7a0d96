-- The four bytes as std reads them.
use mathlib.Core.Path.{ap, ◌∙◌}
use Rattle.std.specs.Int.{w32, from_be_bytes}
use Rattle.record.proofs.Digits.{from_four}
use Rattle.record.proofs.bytes.u32_at.Goals as goal

pub returns : goal.returns
returns c = c.from_be_bytes.ensures ∙ ap (from_be_bytes w32) c.bytes_at.ensures ∙ from_four c.args.s.now c.args.at
