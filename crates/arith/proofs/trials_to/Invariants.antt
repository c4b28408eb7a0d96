-- What is left to try leads where the rule leads.
use Rattle.arith.proofs.Walk.{Walk}
use Rattle.arith.proofs.trials_to.Given as goal

abbrev pub invariant-loop-candidates : goal.invariant-loop-candidates
invariant-loop-candidates l = Walk l.u l.most l.candidates l.above l.trials

abbrev pub decreases-loop-candidates : goal.decreases-loop-candidates
decreases-loop-candidates l = l.candidates
