-- Down from `last`, as long as the links resist as much.
use Prim.Native.Nat.{◌≤◌}
use mathlib.Core.Path.{◌≡◌}
use Rattle.links.specs.Links.{link_resistance}
use Rattle.links.proofs.Truss.first_with.Given as goal

abbrev pub invariant-loop-c : goal.invariant-loop-c
invariant-loop-c l = (10 ≤ l.c) × ((l.c ≤ l.last) × (link_resistance l.self l.c ≡ link_resistance l.self l.last))
