-- The bytes of each as std writes them.
use mathlib.Core.Path.{ap₂}
use mathlib.Core.List.{◌++◌}
use Rattle.record.proofs.Digits.{to_four}
use Rattle.record.proofs.writer.pair_bytes.Goals as goal

pub returns : goal.returns
returns c = rw (c.to_be_bytes.ensures, c.to_be_bytes-2.ensures) (ap₂ ◌++◌ (to_four c.args.x) (to_four c.args.y))
