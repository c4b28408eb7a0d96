-- The sum so far and what the layers left give is what all give.
use Prim.Native.Nat.{◌≤◌, ◌+◌, ◌*◌}
use mathlib.Core.Path.{◌≡◌}
use lib.ListN.{drop}
use Rattle.section.specs.Code.Accepted.{area_sum}
use Rattle.section.proofs.layers.steel_area.Given as goal

abbrev pub invariant-loop-l : goal.invariant-loop-l
invariant-loop-l l = (l.sum + area_sum (drop l.l-index l.layers) ≡ area_sum l.layers) × (l.sum ≤ 4294967295 * l.l-index)
