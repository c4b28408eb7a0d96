-- The depth by the search, and beyond 10h where that ends there and N is not reached.
use Prim.Native.Nat.{ℕ, ◌+◌, ◌-◌, ◌*◌, ◌≤◌}
use mathlib.Core.Bool.{true}
use mathlib.Core.Path.{◌≡◌, ap, ◌∙◌}
use native.Mathlib.Omega.{arith}
use borrow.Author.Rules.{rules}
use mir.Syntax.{w64}
use mir.Val.{SFits, to_z, of_z}
use mir.Facts.{to_z-of_z}
use Rattle.std.specs.Prelude.{Option, IfSome}
use Rattle.arith.proofs.Bound.{fits64}
use Rattle.beyond.specs.Depth.{some_depth, least_reaching}
use Rattle.equilibrium.specs.declared.balance.Balance.{Balance}
use Rattle.equilibrium.specs.Refusals.{carries}
use Rattle.equilibrium.specs.Code.Whole.{excess, carries_at_one}
use Rattle.equilibrium.specs.Depth.{face_depth}
use Rattle.equilibrium.specs.Accuracy.{DepthPromise}
use Rattle.equilibrium.proofs.Found.{face_clauses, some_up_to}
use Rattle.equilibrium.proofs.DepthOne.{one_by}
use Rattle.equilibrium.proofs.Trials.{top_short, top_reached, below_top}
use Rattle.equilibrium.proofs.balance.Balance.depth_above_one.Goals as goal
use Rattle.equilibrium.proofs.balance.Balance.depth_above_one.Goals.{After-excesses}

module _ (b : Balance) (carried : carries_at_one b.design.now b.steel b.n ≡ true) where
  high_enough : 1 ≤ b.design.now.h
  high_enough = omega (arith, b.usable.bounded.h-low)

  -- 1 carries
  one : carries b.design.now b.layers.now b.n 1 ≡ true
  one = one_by b.layers.now b.n b.usable b.area ∙ carried

  -- both clauses of an answer that is the depth
  clauses : {r : Option ℕ} → r ≡ some_depth (face_depth b.layers.now b.n b.design.now) → record {
    value : r ≡ some_depth (face_depth b.layers.now b.n b.design.now);
    promised : IfSome r (λ u. DepthPromise b.design.now b.layers.now b.n u);
  }
  clauses e = let both = face_clauses b.n b.usable one e in record { value = both.0; promised = both.1 }

top_read : (c : After-excesses) → let b = c.args.self.now in to_z w64 (of_z w64 c.excesses.result.next) ≡ excess b.design.now b.layers.now b.n (10 * b.design.now.h)
top_read c =
    let b = c.args.self.now in
    let e : 10 * b.design.now.h - 1 + 1 ≡ 10 * b.design.now.h = omega (arith, b.usable.bounded.h-low) in
    let fits : SFits w64 c.excesses.result.next = search rules in
    to_z-of_z fits ∙ c.excesses.ensures.next ∙ ap (λ u. excess b.design.now b.layers.now b.n u) e

pub by_pairs-u-requires : goal.by_pairs-u-requires
by_pairs-u-requires c = one c.args.self.now c.requires

pub returns-then-u-most : goal.returns-then-u-most
returns-then-u-most c =
    let b = c.args.self.now in
    let u = c.by_pairs-u.ensures in
    clauses b c.requires
    (some_up_to b.n b.usable (one b c.requires) u
    (below_top b.design.now b.layers.now b.n (high_enough b c.requires) (omega (arith, u, c.if-u-most.true))))

pub returns-then-excesses-lt0 : goal.returns-then-excesses-lt0
returns-then-excesses-lt0 c =
    let b = c.args.self.now in
    let e = (goal.at.returns-then-excesses-lt0 c).After-excesses in
    clauses b c.requires
    (rw (top_short b.design.now b.layers.now b.n (high_enough b c.requires) (top_read e) c.if-excesses-lt0.true)
    (c.least_reaching.ensures ∙ ap (λ z. some_depth (least_reaching b.design.now b.layers.now z)) (to_z-of_z (fits64 b.load tt))))

pub returns : goal.returns
returns c =
    let b = c.args.self.now in
    let e = (goal.at.returns c).After-excesses in
    clauses b c.requires
    (some_up_to b.n b.usable (one b c.requires) c.by_pairs-u.ensures
    (top_reached b.design.now b.layers.now b.n (high_enough b c.requires) (top_read e) c.if-excesses-lt0.false))
