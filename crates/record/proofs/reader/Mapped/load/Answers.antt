-- Field by field.
use Rattle.arith.proofs.Machine.{result}
use Rattle.record.specs.Contents.{load_of}
use Rattle.record.proofs.reader.Mapped.load.Goals as goal

pub returns : goal.returns
unfolding load_of
returns c =
    let n = result c.number.type_inv c.number.ensures in
    let m = result c.number-2.type_inv c.number-2.ensures in
    let v = result c.number-3.type_inv c.number-3.ensures in
    λ i. record { n = n i; m = m i; v = v i }
