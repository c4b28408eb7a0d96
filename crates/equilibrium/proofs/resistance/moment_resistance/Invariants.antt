-- The sum so far and what the layers left give is the resistance.
use Prim.Native.Nat.{◌+◌, ◌*◌}
use mathlib.Core.Path.{◌≡◌}
use lib.IntN.{◌+ℤ◌}
use lib.ListN.{drop}
use Rattle.arith.specs.Integer.{Within}
use Rattle.section.specs.Code.Accepted.{layers_in}
use Rattle.equilibrium.specs.Moment.{resistance_at}
use Rattle.equilibrium.specs.Code.Whole.{steel_at}
use Rattle.equilibrium.proofs.Sizes.{layer-bound}
use Rattle.equilibrium.proofs.resistance.moment_resistance.Given as goal

abbrev pub invariant-loop-l : goal.invariant-loop-l
invariant-loop-l l =
    let ls = layers_in l.face in
    (l.sum +ℤ steel_at l.face.design (drop l.l-index ls) l.u ≡ resistance_at l.face.design ls l.u)
    × Within l.sum (60000000000 + layer-bound * l.l-index)
