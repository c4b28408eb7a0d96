-- The greatest is one of the candidates from `k` to `k + span`.
use Prim.Native.Nat.{◌+◌}
use Rattle.arith.proofs.Greatest.{Candidates}
use Rattle.shear.specs.Code.Power.{power_at_most}
use Rattle.shear.proofs.power.Root.by_halving.Given as goal

abbrev pub invariant-loop-span : goal.invariant-loop-span
invariant-loop-span g l = Candidates (power_at_most g.row.E l.self.a l.self.y) l.self.most l.k (l.k + l.span)

abbrev pub decreases-loop-span : goal.decreases-loop-span
decreases-loop-span g l = l.span
