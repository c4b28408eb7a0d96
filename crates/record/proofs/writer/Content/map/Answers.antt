-- The bits below k stand that are written.
use mathlib.Core.Path.{◌≡◌, refl, sym, ap, ◌∙◌}
use mathlib.Core.Bool.{Bool}
use Prim.Native.Nat.{ℕ, ◌+◌, ◌^◌, ◌<◌}
use native.Mathlib.Omega.{arith}
use Rattle.record.specs.declared.writer.Content.{Content}
use Rattle.record.specs.Code.Content.{writes_in}
use Rattle.record.specs.Map.{map_with}
use Rattle.record.specs.Fields.{width, field_of}
use Rattle.record.specs.Layout.{map_of}
use Rattle.record.proofs.Bits.{map_below, shl_one, bit_fits}
use Rattle.record.proofs.Writing.{map_yes, map_no}
use Rattle.record.proofs.writer.Content.map.Goals as goal
use Rattle.record.proofs.writer.Content.map.Goals.{then-writes, else-writes}

abbrev written : Content → ℕ → Bool
written c k = writes_in c (field_of k)

pub loop-k-init : goal.loop-k-init
unfolding map_with
loop-k-init c = refl

-- the bit has room above those below it
pub overflow_add-map : goal.overflow_add-map
overflow_add-map c =
    let l = c.loop-k in
    let low : l.map < 2 ^ l.k = rw l.invariant (map_below (written c.args.self.now) l.k) in
    rw (shl_one l.k (omega arith)) (record { fits = bit_fits l.map l.k (omega arith) low })

pub loop-k-preserved : goal.loop-k-preserved
loop-k-preserved c =
    let l = c.loop-k in
    let w = written c.args.self.now in
    let asked = c.writes.ensures ∙ ap (writes_in c.args.self.now) c.field_of.ensures in
    let low : l.k < 32 = omega arith in
    elim c.if-writes.branch [
      | then-writes t ↦
          t.map-is ∙ ap (λ (x : ℕ). l.map + x) (shl_one l.k low) ∙ ap (λ (x : ℕ). x + 2 ^ l.k) l.invariant
          ∙ sym (map_yes w l.k (sym asked ∙ t.if-writes.true))
      | else-writes t ↦ t.map-is ∙ l.invariant ∙ sym (map_no w l.k (sym asked ∙ t.if-writes.false))
    ]

pub returns : goal.returns
unfolding map_of
returns c =
    let end : c.loop-k.k ≡ width = omega arith in
    c.loop-k.invariant ∙ ap (map_with (written c.args.self.now)) end
