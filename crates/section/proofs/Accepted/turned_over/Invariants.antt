-- The layers so far are turned over, those left are as they were.
use mathlib.Core.List.{◌++◌, map}
use mathlib.Core.Path.{◌≡◌}
use lib.ListN.{drop, take}
use Rattle.section.specs.Turned.{turned_layer}
use Rattle.section.proofs.Accepted.turned_over.Given as goal

abbrev pub invariant-loop-l : goal.invariant-loop-l
invariant-loop-l l = l.l-items ≡ map (turned_layer l.self.design.h) (take l.l-index l.self.layers) ++ drop l.l-index l.self.layers
