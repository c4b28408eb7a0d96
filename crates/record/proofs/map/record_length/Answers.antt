-- The machine's count of ones is the number of bits that stand.
use native.Mathlib.Omega.{arith}
use Rattle.record.proofs.Bits.{ones_standing}
use Rattle.record.proofs.map.record_length.Goals as goal

pub returns : goal.returns
returns c = omega (arith, ones_standing c.args.map c.ranges.map.fits)
