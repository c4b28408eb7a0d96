-- The answers as C has them: the numbers of documents 01 and 02 for each case. Assumes nothing.
use Rattle.std.specs.Prelude.{ℤ, Result}
use Rattle.refusals.specs.declared.Refusal.{Refusal}
use Rattle.refusals.specs.Number.{refusal_number}
use Rattle.equilibrium.specs.declared.Depth.{Depth}
use Rattle.equilibrium.specs.Depth as depth
use Rattle.equilibrium.specs.Moment as moment
use Rattle.engine.specs.declared.DepthAnswer.{DepthAnswer}
use Rattle.engine.specs.declared.MomentAnswer.{MomentAnswer}

abbrev pub depth_answer : Result Depth Refusal → DepthAnswer
depth_answer d = record { refusal = refusal_number d; depth = depth.depth_found d; trials = depth.trials_found d }

abbrev pub moment_answer : Result ℤ Refusal → MomentAnswer
moment_answer m = record { refusal = refusal_number m; moment = moment.moment_found m }
