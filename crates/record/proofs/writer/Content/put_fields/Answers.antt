-- The fields of the bits below k stand after the map, and nothing else has changed.
use mathlib.Core.Path.{◌≡◌, refl, sym, ap, ap₂, ◌∙◌}
use mathlib.Core.Bool.{true}
use mathlib.Core.List.{List}
use Prim.Native.Nat.{ℕ, ◌+◌, ◌≤◌, ◌<◌}
use native.Mathlib.Omega.{arith}
use lib.ListN.{length}
use Rattle.section.specs.Section.{counted, links_of}
use Rattle.record.specs.Bytes.{placed}
use Rattle.record.specs.Map.{stands, standing, offset}
use Rattle.record.specs.Fields.{width, field_of}
use Rattle.record.specs.Layout.{fields_to, fields}
use Rattle.record.specs.Code.Content.{writes_in, bytes_in}
use Rattle.record.proofs.Bits.{room, offset_yes, offset_no}
use Rattle.record.proofs.Lent.{placed_none, placed_more}
use Rattle.record.proofs.Writing.{stands-written, length_field, fields_yes, fields_no, length_fields}
use Rattle.record.proofs.writer.Content.put_fields.Goals as goal
use Rattle.record.proofs.writer.Content.put_fields.Goals.{Then-bit_stands, then-bit_stands, else-bit_stands}

pub loop-k-init : goal.loop-k-init
unfolding standing fields_to
loop-k-init c = record { at = refl; long = refl; written = placed_none _ 4 }

-- the bit at hand stands: it is one of the written ones, and there is room for it
module _ (c : Then-bit_stands) where
  it-stands : stands c.args.map c.loop-k.k ≡ true
  it-stands = sym c.bit_stands.ensures ∙ c.if-bit_stands.true

  it-is-written : writes_in c.args.self.now (field_of c.loop-k.k) ≡ true
  it-is-written =
      let s = c.args.self.now.section.now in
      sym (stands-written (counted s) (links_of s) c.args.self.now.load.now c.loop-k.k c.loop-k-test.true)
      ∙ ap (λ (m : ℕ). stands m c.loop-k.k) (sym c.requires.map_is) ∙ it-stands

  has_room : offset c.args.map c.loop-k.k + 8 ≤ length c.args.buffer.now
  has_room = room c.args.map c.loop-k.k (length c.args.buffer.now) (omega arith) it-stands c.requires.room

pub bytes-requires : goal.bytes-requires
bytes-requires c = ap (writes_in c.args.self.now) c.field_of.ensures ∙ it-is-written (goal.at.bytes-requires c).Then-bit_stands

pub put-requires : goal.put-requires
put-requires c =
    let s = c.args.self.now.section.now in
    let eight : length c.bytes.result ≡ 8 = ap length c.bytes.ensures ∙ length_field (counted s) (links_of s) c.args.self.now.load.now c.field_of.result in
    omega (arith, has_room (goal.at.put-requires c).Then-bit_stands, c.loop-k.invariant.at, c.loop-k.invariant.long)

pub overflow_add-at : goal.overflow_add-at
overflow_add-at c = omega (arith, has_room (goal.at.overflow_add-at c).Then-bit_stands, c.loop-k.invariant.at)

pub loop-k-preserved : goal.loop-k-preserved
loop-k-preserved c =
    let l = c.loop-k in
    let m = c.args.map in
    let xs = c.args.buffer.now in
    let s = c.args.self.now.section.now in
    let f : ℕ → List ℕ = λ k. bytes_in c.args.self.now (field_of k) in
    let F = fields_to m f l.k in
    let eight : (k : ℕ) → length (f k) ≡ 8 = λ k. length_field (counted s) (links_of s) c.args.self.now.load.now (field_of k) in
    let n : offset m l.k ≡ 4 + length F = ap (λ (n : ℕ). 4 + n) (sym (length_fields m f eight l.k)) in
    elim c.if-bit_stands.branch [
      | then-bit_stands w ↦
          (let t : stands m l.k ≡ true = sym c.bit_stands.ensures ∙ w.if-bit_stands.true in
          let low : l.k < 32 = omega arith in
          let fits : 4 + length F ≤ length xs = omega (arith, room m l.k (length xs) low t c.requires.room, n) in record {
            at = w.at-is ∙ ap (λ (a : ℕ). a + 8) l.invariant.at ∙ sym (offset_yes m l.k t);
            long = ap length w.buffer-is ∙ w.put.auto.buffer ∙ l.invariant.long;
            written = w.buffer-is ∙ w.put.ensures
                ∙ ap (placed l.buffer l.at) (w.bytes.ensures ∙ ap (bytes_in c.args.self.now) w.field_of.ensures)
                ∙ ap₂ (λ (b : List ℕ) (a : ℕ). placed b a (f l.k)) l.invariant.written (l.invariant.at ∙ n)
                ∙ placed_more xs 4 F (f l.k) fits
                ∙ ap (placed xs 4) (sym (fields_yes m f l.k t));
          })
      | else-bit_stands w ↦
          (let t = sym c.bit_stands.ensures ∙ w.if-bit_stands.false in record {
            at = w.at-is ∙ l.invariant.at ∙ sym (offset_no m l.k t);
            long = ap length w.buffer-is ∙ l.invariant.long;
            written = w.buffer-is ∙ l.invariant.written ∙ ap (placed xs 4) (sym (fields_no m f l.k t));
          })
    ]

pub returns : goal.returns
unfolding fields
returns c =
    let l = c.loop-k in
    let end : l.k ≡ width = omega arith in
    l.invariant.written ∙ ap₂ (λ (m k : ℕ). placed c.args.buffer.now 4 (fields_to m (λ k. bytes_in c.args.self.now (field_of k)) k)) c.requires.map_is end
