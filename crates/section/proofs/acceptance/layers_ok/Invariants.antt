-- What passed so far, and what is left, is what passes of all.
use mathlib.Core.Bool.{◌&&◌}
use mathlib.Core.Path.{◌≡◌}
use lib.ListN.{drop}
use Rattle.section.specs.Section.{all, depth_ok, area_ok}
use Rattle.section.proofs.acceptance.layers_ok.Given as goal

abbrev pub invariant-loop-l : goal.invariant-loop-l
invariant-loop-l l =
    (l.deep && all (depth_ok l.h) (drop l.l-index l.layers) ≡ all (depth_ok l.h) l.layers) × (l.wide && all area_ok (drop l.l-index l.layers) ≡ all area_ok l.layers)
