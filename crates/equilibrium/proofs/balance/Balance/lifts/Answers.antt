-- Each sum so far, with what is left, is the sum over all.
use Prim.Native.Nat.{◌+◌}
use mathlib.Core.Path.{◌≡◌}
use native.Mathlib.Omega.{arith}
use lib.ListN.{drop}
use Rattle.std.proofs.lemmas.List.{at_drop_more, at_drop_all}
use Rattle.section.specs.Section.{no_layer}
use Rattle.equilibrium.specs.Code.Whole.{lift_sum}
use Rattle.equilibrium.proofs.Sizes.{lift_sum_high}
use Rattle.equilibrium.proofs.balance.Balance.lifts.Goals as goal
use Rattle.equilibrium.proofs.balance.Balance.lifts.Goals.{After-layer_lift-at, After-layer_lift-next}

-- the sums with the layer at hand
grown : (c : After-layer_lift-at)
    → c.loop-l.at + c.layer_lift-at.result + lift_sum c.args.self.now.design.now (drop (c.loop-l.l-index + 1) c.args.self.now.layers.now) c.args.v
    ≡ lift_sum c.args.self.now.design.now c.args.self.now.layers.now c.args.v
unfolding lift_sum
grown c =
    let s = c.args.self.now in
    rw c.layer_lift-at.ensures
    (omega (arith, c.loop-l.invariant.0, at_drop_more (λ ls. lift_sum s.design.now ls c.args.v) s.layers.now c.loop-l.l-index no_layer c.loop-l-test.true))

grown_next : (c : After-layer_lift-next)
    → c.loop-l.next + c.layer_lift-next.result
    + lift_sum c.args.self.now.design.now (drop (c.loop-l.l-index + 1) c.args.self.now.layers.now) (c.args.v + 1)
    ≡ lift_sum c.args.self.now.design.now c.args.self.now.layers.now (c.args.v + 1)
unfolding lift_sum
grown_next c =
    let s = c.args.self.now in
    rw c.layer_lift-next.ensures
    (omega (arith, c.loop-l.invariant.1, at_drop_more (λ ls. lift_sum s.design.now ls (c.args.v + 1)) s.layers.now c.loop-l.l-index no_layer c.loop-l-test.true))

pub overflow_add-at : goal.overflow_add-at
overflow_add-at c = omega (arith, grown c, lift_sum_high {u = c.args.v} c.args.self.now.usable (omega (arith, c.requires)))

pub overflow_add-next : goal.overflow_add-next
overflow_add-next c = omega (arith, grown_next c, lift_sum_high {u = c.args.v + 1} c.args.self.now.usable (omega (arith, c.requires)))

pub loop-l-preserved : goal.loop-l-preserved
loop-l-preserved c = (grown (goal.at.loop-l-preserved c).After-layer_lift-at, grown_next c)

pub returns : goal.returns
unfolding lift_sum
returns c =
    let s = c.args.self.now in
    let none = at_drop_all (λ ls. lift_sum s.design.now ls c.args.v) s.layers.now c.loop-l.l-index c.loop-l-test.false in
    let none_next = at_drop_all (λ ls. lift_sum s.design.now ls (c.args.v + 1)) s.layers.now c.loop-l.l-index c.loop-l-test.false in
    record { at = omega (arith, c.loop-l.invariant.0, none); next = omega (arith, c.loop-l.invariant.1, none_next) }
