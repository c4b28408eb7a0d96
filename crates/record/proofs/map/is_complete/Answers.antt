-- One bit more at each turn, at the end all of the table.
use mathlib.Core.Path.{◌≡◌, refl, ap, ◌∙◌}
use mathlib.Core.Bool.{Bool, not, ◌&&◌, ◌||◌}
use Prim.Native.Nat.{ℕ, ◌+◌}
use native.Mathlib.Numerals.{add-one}
use native.Mathlib.Omega.{arith}
use Rattle.std.proofs.Math.Bool.{and_comm}
use Rattle.record.specs.Fields.{width, field_of, must_stand}
use Rattle.record.specs.Map.{stands, complete_to, complete}
use Rattle.record.proofs.map.is_complete.Goals as goal
use Rattle.record.proofs.map.is_complete.Goals.{then-not-must_stand, else-not-must_stand}

-- a further bit, of which `here` says whether it is as it must be
further : (m k : ℕ) {done here : Bool} → here ≡ (not (must_stand (field_of k)) || stands m k) → done ≡ complete_to m k
    → (done && here) ≡ complete_to m (k + 1)
unfolding complete_to
further m k h d = rw (h, d, add-one k) (and_comm (complete_to m k) (not (must_stand (field_of k)) || stands m k))

pub loop-k-init : goal.loop-k-init
unfolding complete_to
loop-k-init c = (omega arith, refl)

pub loop-k-preserved : goal.loop-k-preserved
loop-k-preserved c =
    let l = c.loop-k in
    let asked = c.must_stand.ensures ∙ ap must_stand c.field_of.ensures in (
      omega arith,
      further c.args.map l.k (elim c.if-not-must_stand.branch [
        | then-not-must_stand t ↦ rw (t.complete-is, ← asked, t.if-not-must_stand.true) refl
        | else-not-must_stand t ↦ rw (t.complete-is, ← asked, t.if-not-must_stand.false) t.bit_stands.ensures
      ]) l.invariant.1,
    )

pub returns : goal.returns
unfolding complete
returns c =
    let end : c.loop-k.k ≡ width = omega arith in
    c.loop-k.invariant.1 ∙ ap (complete_to c.args.map) end
