-- The layers of the first j bits stand in the first places.
use mathlib.Core.Path.{refl, sym, ap, ◌∙◌}
use mathlib.Core.List.{List, [], ◌∷◌, ◌++◌}
use Prim.Native.Nat.{ℕ, ◌+◌, ◌<◌}
use native.Mathlib.Omega.{arith}
use lib.ListN.{length, set, length-append}
use Rattle.section.specs.declared.Layer.{Layer}
use Rattle.record.specs.Map.{offset}
use Rattle.record.specs.Fields.{layer_bit}
use Rattle.record.specs.Contents.{layers_to, filled, layer_at}
use Rattle.record.proofs.Bits.{room}
use Rattle.record.proofs.Places.{layers_yes, layers_no, filled_more}
use Rattle.record.proofs.reader.Mapped.layers.Goals as goal
use Rattle.record.proofs.reader.Mapped.layers.Goals.{then-bit_stands, else-bit_stands}

pub loop-j-init : goal.loop-j-init
unfolding layers_to filled
loop-j-init c = record { few = omega arith; count = refl; places = refl }

pub layer-requires : goal.layer-requires
layer-requires c =
    let r = c.args.self.now in
    let k = layer_bit c.loop-j.j in
    let t = sym c.bit_stands.ensures ∙ c.if-bit_stands.true in
    let low : k < 32 = omega arith in
    omega (arith, room r.map k (length r.bytes.now) low t r.whole, c.field_offset.ensures)

pub loop-j-preserved : goal.loop-j-preserved
loop-j-preserved c =
    let r = c.args.self.now in
    let l = c.loop-j in
    let xs = r.bytes.now in
    let L = layers_to xs r.map l.j in
    let y = layer_at xs (offset r.map (layer_bit l.j)) in
    elim c.if-bit_stands.branch [
      | then-bit_stands w ↦
          (let more = layers_yes xs r.map l.j (sym c.bit_stands.ensures ∙ w.if-bit_stands.true) in
          let free : length L < 16 = omega arith in
          let z = w.layer.result in record {
            few = omega (arith, w.count-is);
            count = w.count-is ∙ ap (λ (n : ℕ). n + 1) l.invariant.count ∙ sym (length-append L (y ∷ [])) ∙ ap length (sym more);
            places = w.places-is ∙ ap (λ (ls : List Layer). set ls l.count z) l.invariant.places
                ∙ ap (λ (n : ℕ). set (filled L) n z) l.invariant.count
                ∙ filled_more L z free
                ∙ ap (λ (z : Layer). filled (L ++ (z ∷ []))) (w.layer.ensures ∙ ap (layer_at xs) w.field_offset.ensures)
                ∙ ap filled (sym more);
          })
      | else-bit_stands w ↦
          (let same = layers_no xs r.map l.j (sym c.bit_stands.ensures ∙ w.if-bit_stands.false) in record {
            few = omega (arith, w.count-is);
            count = w.count-is ∙ l.invariant.count ∙ ap length (sym same);
            places = w.places-is ∙ l.invariant.places ∙ ap filled (sym same);
          })
    ]
