-- Field by field.
use Rattle.arith.proofs.Machine.{result}
use Rattle.record.specs.Contents.{section_of}
use Rattle.record.proofs.reader.Mapped.section.Goals as goal

pub returns : goal.returns
unfolding section_of
returns c =
    let ls = c.layers-count.ensures in
    let width = result c.number.type_inv c.number.ensures in
    let height = result c.number-2.type_inv c.number-2.ensures in
    let fck = result c.number-3.type_inv c.number-3.ensures in
    let fyk = result c.number-4.type_inv c.number-4.ensures in
    let situation = result c.number-5.type_inv c.number-5.ensures in
    let alphacc = result c.number-6.type_inv c.number-6.ensures in
    λ i. record {
      layers = ls.places i;
      width = width i;
      height = height i;
      grade = record { fck = fck i; fyk = fyk i; situation = situation i; alphacc = alphacc i };
      links = c.links.ensures i;
      count = ls.count i;
    }
