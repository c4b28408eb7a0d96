-- The greatest is one of the candidates from `k` to `k + span`.
use Prim.Native.Nat.{ℕ, ◌+◌, ◌-◌, ◌/◌}
use mathlib.Core.Bool.{Bool}
use mathlib.Core.Path.{sym, ◌∙◌}
use native.Mathlib.Omega.{arith}
use Rattle.arith.proofs.Greatest.{start, kept, dropped, wider}
use Rattle.shear.specs.Code.Power.{power_at_most}
use Rattle.shear.proofs.Powers.{never_back}
use Rattle.shear.proofs.power.Root.by_halving.Given as given
use Rattle.shear.proofs.power.Root.by_halving.Goals as goal
use Rattle.shear.proofs.power.Root.by_halving.Goals.{At-loop-span}

-- the trial, and what is left of the span after it
module _ (g : given.Over) (at : At-loop-span g) where
  abbrev test : ℕ → Bool
  test = power_at_most g.row.E at.args.self.now.a at.args.self.now.y

  abbrev rest : ℕ
  rest = at.loop-span.span / 2

  abbrev trial : ℕ
  trial = at.loop-span.k + (at.loop-span.span - rest)

pub loop-span-init : goal.loop-span-init
loop-span-init g c =
    let s = c.args.self.now in
    let p = power_at_most g.row.E s.a s.y in
    wider p (0 + s.most) (omega arith) (omega arith) (start p s.most 0 (omega arith))

pub loop-span-preserved-then-passes : goal.loop-span-preserved-then-passes
loop-span-preserved-then-passes g c =
    let at = c.before.before.before in
    let inv = at.loop-span.invariant in
    wider (test g at) (trial g at + rest g at) (omega arith) (omega (arith, inv.most))
    (kept (test g at) (trial g at) (omega arith) (sym c.passes.ensures ∙ c.if-passes.true) inv)

pub loop-span-preserved : goal.loop-span-preserved
loop-span-preserved g c =
    let at = c.before.before.before in
    let s = at.args.self.now in
    let inv = at.loop-span.invariant in
    wider (test g at) (at.loop-span.k + rest g at) (omega arith) (omega (arith, inv.most))
    (dropped (test g at) (never_back g.row.E s.a s.y) (trial g at) (omega arith) (omega arith) (sym c.passes.ensures ∙ c.if-passes.false) inv)
