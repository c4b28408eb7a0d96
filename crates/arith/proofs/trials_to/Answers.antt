-- What is left to try leads where the rule leads.
use Rattle.std.proofs.Common.{arith}
use Rattle.arith.proofs.Walk.{set_out, walk_kept, walk_dropped, arrived}
use Rattle.arith.proofs.trials_to.Goals as goal
use Rattle.arith.proofs.trials_to.Goals.{then-half-above, else-half-above}

pub loop-candidates-init : goal.loop-candidates-init
loop-candidates-init c = set_out c.args.u c.args.most c.requires

pub loop-candidates-preserved : goal.loop-candidates-preserved
loop-candidates-preserved c =
    let l = c.loop-candidates.invariant in
    let more = c.loop-candidates-test.true in
    elim c.if-half-above.branch [
      | then-half-above w ↦ rw (w.candidates-is, w.above-is) (walk_kept c.args.u more l (omega (arith, w.if-half-above.true)))
      | else-half-above w ↦ rw (w.candidates-is, w.above-is) (walk_dropped c.args.u more l (omega (arith, w.if-half-above.false)))
    ]

pub returns : goal.returns
returns c = arrived c.args.u c.loop-candidates-test.false c.loop-candidates.invariant
