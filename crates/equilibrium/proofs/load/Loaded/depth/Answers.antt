-- 11 by one comparison, and the kind of the depth that is found.
use Prim.Native.Nat.{◌≤◌}
use mathlib.Core.Bool.{true, false}
use mathlib.Core.Path.{◌≡◌, refl, sym, ap, ◌∙◌}
use lib.IntN.{ℤ}
use Rattle.std.specs.Prelude.{Result, Err, Some}
use Rattle.refusals.specs.declared.Refusal.{Refusal}
use Rattle.refusals.specs.declared.Refusal.TheVariants.{ForceTooLow}
use Rattle.refusals.proofs.Exits.{passed, refused, is_there, is_missing}
use Rattle.section.specs.declared.Accepted.{Accepted}
use Rattle.section.specs.declared.Design.{Design}
use Rattle.section.specs.Code.Accepted.{layers_in}
use Rattle.beyond.proofs.Intervals.{is_some, is_none}
use Rattle.equilibrium.specs.declared.Depth.{Depth}
use Rattle.equilibrium.specs.declared.balance.Balance.{Balance}
use Rattle.equilibrium.specs.Code.Whole.{carries_at_one}
use Rattle.equilibrium.specs.Accuracy.{PromisedDepth}
use Rattle.equilibrium.specs.Depth.{face_depth, depth_for}
use Rattle.equilibrium.proofs.Found.{kind, depth_kind, kind_none, kind_up_to, kind_beyond, depth_clauses}
use Rattle.equilibrium.proofs.DepthOne.{one_by}
use Rattle.equilibrium.proofs.load.Loaded.depth.Goals as goal
use Rattle.equilibrium.proofs.load.Loaded.depth.Goals.{After-balance-balance, In_ok-u}

-- both clauses of an answer that is the depth
clauses : (a : Accepted) (N : ℤ) {r : Result Depth Refusal} → r ≡ depth_for a.design (layers_in a) N
    → record { value : r ≡ depth_for a.design (layers_in a) N; promised : PromisedDepth a.design (layers_in a) N r }
clauses a N e = let both = depth_clauses N a.usable e in record { value = both.0; promised = both.1 }

-- of the balance
abbrev answer : Balance → Result Depth Refusal
answer b = depth_for b.design.now b.layers.now b.n

short : (b : Balance) → carries_at_one b.design.now b.steel b.n ≡ false → Err ForceTooLow ≡ answer b
unfolding depth_for
short b e = rw (one_by b.layers.now b.n b.usable b.area ∙ e) refl

ended : (b : Balance) → carries_at_one b.design.now b.steel b.n ≡ true → kind b.design.now (face_depth b.layers.now b.n b.design.now) ≡ answer b
ended b e = sym (depth_kind b.n b.usable (one_by b.layers.now b.n b.usable b.area ∙ e))

-- what is found of the balance holds of the face
module _ (c : After-balance-balance) where
  abbrev b : Balance
  b = c.balance-balance.result

  done : {r : Result Depth Refusal} → r ≡ answer b → record {
    value : r ≡ depth_for c.args.self.now.face.now.design (layers_in c.args.self.now.face.now) c.args.self.now.n;
    promised : PromisedDepth c.args.self.now.face.now.design (layers_in c.args.self.now.face.now) c.args.self.now.n r;
  }
  done e =
      let of = c.balance-balance.ensures in
      clauses c.args.self.now.face.now c.args.self.now.n (e ∙ (λ i. depth_for (of.design i) (of.layers i) (of.load i)))

-- a depth is found
module _ (c : In_ok-u) where
  abbrev begun : After-balance-balance
  begun = (goal.at.In_ok-u c).After-balance-balance

  abbrev x : Design
  x = (b begun).design.now

  there : c.depth_above_one.result ≡ Some c.in_ok-u.u
  there = is_there _ c.ok_or.ensures.value c.in_ok-u.was

  low : 1 ≤ c.in_ok-u.u
  low = (rw there at c.depth_above_one.ensures.promised).depth.low

  -- an answer of its kind
  ended_by : {r : Result Depth Refusal} → r ≡ kind x c.in_ok-u.u → r ≡ answer (b begun)
  ended_by e =
      let carried = sym c.carries_at_one.ensures ∙ passed _ c.unless.ensures c.in_ok-unless.was in
      let is = is_some _ (sym c.depth_above_one.ensures.value ∙ there) in
      e ∙ ap (kind x) (sym is) ∙ ended (b begun) carried

pub returns-in_err-unless : goal.returns-in_err-unless
returns-in_err-unless c =
    let a = (goal.at.returns-in_err-unless c).After-balance-balance in
    let out = refused _ c.unless.ensures _ c.from_residual.ensures.1 c.in_err-unless.was in
    done a (out.1 ∙ short (b a) (sym c.carries_at_one.ensures ∙ out.0))

pub returns-in_err-u : goal.returns-in_err-u
returns-in_err-u c =
    let a = (goal.at.returns-in_err-u c).After-balance-balance in
    let carried = sym c.carries_at_one.ensures ∙ passed _ c.unless.ensures c.in_ok-unless.was in
    let out = is_missing _ c.ok_or.ensures.value _ c.from_residual-in_err-u.ensures.1 c.in_err-u.was in
    let none = is_none _ (sym c.depth_above_one.ensures.value ∙ out.0) in
    done a (out.1 ∙ kind_none (b a).design.now none ∙ ended (b a) carried)

pub returns-then-u-most : goal.returns-then-u-most
returns-then-u-most c =
    let e = (goal.at.returns-then-u-most c).In_ok-u in
    done (begun e) (ended_by e (rw c.trials_to.ensures (kind_up_to (x e) _ (low e) c.if-u-most.true)))

pub returns-else-u-most : goal.returns-else-u-most
returns-else-u-most c =
    let e = (goal.at.returns-else-u-most c).In_ok-u in
    done (begun e) (ended_by e (kind_beyond (x e) _ (low e) c.if-u-most.false))
