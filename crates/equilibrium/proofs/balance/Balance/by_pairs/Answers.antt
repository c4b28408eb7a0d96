-- The greatest is one of the candidates, whatever is tried.
use Prim.Native.Nat.{ℕ, ◌+◌, ◌*◌, ◌≤◌}
use mathlib.Core.Bool.{Bool}
use mathlib.Core.Path.{◌≡◌, ◌∙◌}
use native.Mathlib.Omega.{arith}
use borrow.Author.Rules.{rules}
use mir.Syntax.{w64}
use mir.Val.{SFits, to_z, of_z}
use mir.Facts.{to_z-of_z}
use Rattle.arith.specs.Integer.{Within}
use Rattle.arith.proofs.Greatest as greatest-laws
use Rattle.arith.proofs.Greatest.{Candidates, NeverBack, le-greatest, kept, dropped, greatest_between}
use Rattle.equilibrium.specs.Refusals.{carries}
use Rattle.equilibrium.specs.Code.Whole.{excess}
use Rattle.equilibrium.specs.declared.balance.Balance.{Balance}
use Rattle.equilibrium.proofs.Accuracy.{never_back}
use Rattle.equilibrium.proofs.Sizes.{excess-in}
use Rattle.equilibrium.proofs.Trials.{fails_at, passes_at}
use Rattle.equilibrium.proofs.balance.Balance.by_pairs.Goals as goal
use Rattle.equilibrium.proofs.balance.Balance.by_pairs.Goals.{After-excesses-p, Joined-p-gt0, then-p-gt0, else-p-gt0+else-p-gt0-2}

abbrev test : Balance → ℕ → Bool
test b = carries b.design.now b.layers.now b.n

back : (b : Balance) → NeverBack (test b)
back b = never_back b.design.now b.layers.now b.n

-- what a pair of trials says
module _ (c : After-excesses-p) where
  abbrev b : Balance
  b = c.args.self.now

  abbrev v : ℕ
  v = c.chosen-v.result

  low : 1 ≤ v
  low = omega (arith, c.chosen-v.ensures.0, c.loop-lo.invariant.0)

  high : v + 1 ≤ 10 * b.design.now.h
  high = omega (arith, c.chosen-v.ensures.1, c.loop-lo.invariant.1.most)

  at_read : to_z w64 (of_z w64 c.excesses-p.result.at) ≡ excess b.design.now b.layers.now b.n v
  at_read = let fits : SFits w64 c.excesses-p.result.at = search rules in to_z-of_z fits ∙ c.excesses-p.ensures.at

  next_read : to_z w64 (of_z w64 c.excesses-p.result.next) ≡ excess b.design.now b.layers.now b.n (v + 1)
  next_read = let fits : SFits w64 c.excesses-p.result.next = search rules in to_z-of_z fits ∙ c.excesses-p.ensures.next

  at_in : Within c.excesses-p.result.at 2028800000000000000
  at_in = rw c.excesses-p.ensures.at (excess-in {u = v} b.usable b.load (omega (arith, high, b.usable.bounded.h-high)))

  next_in : Within c.excesses-p.result.next 2028800000000000000
  next_in = rw c.excesses-p.ensures.next (excess-in {u = v + 1} b.usable b.load (omega (arith, high, b.usable.bounded.h-high)))

pub loop-lo-init : goal.loop-lo-init
loop-lo-init c =
    let s = c.args.self.now in
    let h : 1 ≤ 10 * s.design.now.h = omega (arith, s.usable.bounded.h-low) in
    (omega arith, greatest-laws.start (test s) (10 * s.design.now.h) 1 (le-greatest (test s) (10 * s.design.now.h) 1 h c.requires))

pub returns-then-p-gt0-2 : goal.returns-then-p-gt0-2
returns-then-p-gt0-2 c =
    let s = c.args.self.now in
    let e = (goal.at.returns-then-p-gt0-2 c).After-excesses-p in
    greatest_between (test s) (back s) (omega (arith, high e))
    (passes_at s.design.now s.layers.now s.n (low e) (at_read e) c.if-p-gt0.false)
    (fails_at s.design.now s.layers.now s.n (omega arith) (next_read e) c.if-p-gt0-2.true)

pub tangent-guess-requires : goal.tangent-guess-requires
tangent-guess-requires c =
    let e = (goal.at.tangent-guess-requires c).After-excesses-p in
    (at_in e, (next_in e, omega (arith, high e, c.args.self.now.usable.bounded.h-high)))

-- on whichever side the answer is, it is one of the candidates that are left
module _ (c : Joined-p-gt0) where
  left : (1 ≤ c.if-p-gt0.lo) × Candidates (test c.args.self.now) (10 * c.args.self.now.design.now.h) c.if-p-gt0.lo c.if-p-gt0.hi
  left =
      let s = c.args.self.now in
      let e = (goal.at.Joined-p-gt0 c).After-excesses-p in
      elim c.if-p-gt0.branch [
        | then-p-gt0 w ↦
            let fails = fails_at s.design.now s.layers.now s.n (low e) (at_read e) w.if-p-gt0.true in
            rw (w.lo-is, w.hi-is)
            (c.loop-lo.invariant.0, dropped (test s) (back s) (v e) (low e) (omega (arith, c.chosen-v.ensures.1)) fails c.loop-lo.invariant.1)
        | else-p-gt0+else-p-gt0-2 w ↦
            let passes = passes_at s.design.now s.layers.now s.n (omega arith) (next_read e) w.if-p-gt0-2.false in
            rw (w.lo-is, w.hi-is) (omega arith, kept (test s) (v e + 1) (omega (arith, c.chosen-v.ensures.1)) passes c.loop-lo.invariant.1)
      ]

pub loop-lo-preserved : goal.loop-lo-preserved
loop-lo-preserved c = left (goal.at.loop-lo-preserved c).Joined-p-gt0

pub loop-lo-preserved-then-left-eq0 : goal.loop-lo-preserved-then-left-eq0
loop-lo-preserved-then-left-eq0 c = left (goal.at.loop-lo-preserved-then-left-eq0 c).Joined-p-gt0
