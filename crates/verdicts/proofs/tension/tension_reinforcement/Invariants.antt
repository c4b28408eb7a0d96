-- Each sum so far, with what is left, is the sum over all.
use lib.ListN.{drop}
use Rattle.verdicts.proofs.Layers.{Summed}
use Rattle.verdicts.proofs.tension.tension_reinforcement.Given as goal

abbrev pub invariant-loop-l : goal.invariant-loop-l
invariant-loop-l l = Summed l.u l.layers (drop l.l-index l.layers) l.area l.moment
