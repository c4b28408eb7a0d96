-- The bits looked at so far are complete.
use Prim.Native.Nat.{◌≤◌}
use mathlib.Core.Path.{◌≡◌}
use Rattle.record.specs.Map.{complete_to}
use Rattle.record.proofs.map.is_complete.Given as goal

abbrev pub invariant-loop-k : goal.invariant-loop-k
invariant-loop-k l = (l.k ≤ 26) × (l.complete ≡ complete_to l.map l.k)
