-- 11 once for both faces, 12 of either, and the report by the sign of M.
use mathlib.Core.Bool.{true}
use mathlib.Core.List.{List}
use mathlib.Core.Path.{◌≡◌, refl, sym, ap, ◌∙◌}
use Prim.Native.Nat.{ℕ}
use borrow.Author.Rules.{rules}
use lib.IntN.{ℤ, pos}
use lib.Signed.{le_z}
use mir.Syntax.{w64}
use mir.Val.{SFits, to_z, of_z}
use mir.Facts.{to_z-of_z}
use Rattle.std.specs.Prelude.{Ok}
use Rattle.refusals.proofs.Exits.{passed, refused}
use Rattle.section.specs.declared.Layer.{Layer}
use Rattle.section.specs.declared.Design.{Design}
use Rattle.section.specs.declared.Load.{Load}
use Rattle.section.specs.Code.Accepted.{layers_in, area_sum}
use Rattle.section.specs.Turned.{turned}
use Rattle.section.proofs.Turned.{area-turned}
use Rattle.equilibrium.specs.Refusals.{carries, reaches}
use Rattle.equilibrium.specs.Depth.{face_depth}
use Rattle.equilibrium.specs.Code.Whole.{carries_at_one}
use Rattle.equilibrium.proofs.DepthOne.{one_by, one-turned}
use Rattle.verdicts.specs.Verdicts.{first}
use Rattle.clauses.specs.declared.Face.{Face}
use Rattle.clauses.specs.Check.{face_at, report_of, reported, check_faces}
use Rattle.clauses.proofs.Checking.{one_refused, top_refused, bottom_refused, both-reached, top_compressed, bottom_compressed}
use Rattle.clauses.proofs.check.Checking.report.Goals as goal
use Rattle.clauses.proofs.check.Checking.report.Goals.{Start, After-carries_at_one-carried, After-turned_over-turned, After-moment_verdict-moment}

module _ (c : Start) where
  abbrev x : Design
  x = c.args.self.now.face.now.design

  abbrev ls : List Layer
  ls = layers_in c.args.self.now.face.now

  abbrev below : List Layer
  below = turned x.h ls

  abbrev N : ℤ
  N = c.args.self.now.load.now.n

  -- depth 1 is the same for both faces
  same : carries x below N 1 ≡ carries x ls N 1
  same = one-turned ls N c.args.self.now.face.now.usable

-- the test for 11, of the top
module _ (c : After-carries_at_one-carried) where
  abbrev start : Start
  start = (goal.at.After-carries_at_one-carried c).Start

  asked : carries_at_one (x start) (area_sum (ls start)) (N start) ≡ c.carries_at_one-carried.result
  asked =
      let loaded = c.under_force.ensures in
      sym (c.carries_at_one-carried.ensures
      ∙ (λ i. carries_at_one (loaded.face i).design (area_sum (layers_in (loaded.face i))) (loaded.force i)))

  carried : carries (x start) (ls start) (N start) 1 ≡ c.carries_at_one-carried.result
  carried = one_by (ls start) (N start) c.args.self.now.face.now.usable refl ∙ asked

-- depth 1 carries; and the bottom sees the section turned over
module _ (c : After-turned_over-turned) where
  abbrev test : After-carries_at_one-carried
  test = (goal.at.After-turned_over-turned c).After-carries_at_one-carried

  abbrev s : Start
  s = start test

  passes : c.carries_at_one-carried.result ≡ true
  passes = passed _ c.unless.ensures c.in_ok-unless.was

  one : carries (x s) (ls s) (N s) 1 ≡ true
  one = carried test ∙ passes

  one_below : carries_at_one c.turned_over-turned.result.design (area_sum (layers_in c.turned_over-turned.result)) (N s) ≡ true
  one_below =
      let t = c.turned_over-turned.ensures in
      (λ i. carries_at_one (t.design i) (area_sum (t.layers i)) (N s))
      ∙ ap (λ (a : ℕ). carries_at_one (x s) a (N s)) (area-turned (x s).h (ls s)) ∙ asked test ∙ passes

  reached_below : reaches c.turned_over-turned.result.design (layers_in c.turned_over-turned.result) (N s) ≡ reaches (x s) (below s) (N s)
  reached_below = let t = c.turned_over-turned.ensures in λ i. reaches (t.design i) (t.layers i) (N s)

-- both faces, and verdict one of them
module _ (c : After-moment_verdict-moment) where
  abbrev seen : After-turned_over-turned
  seen = (goal.at.After-moment_verdict-moment c).After-turned_over-turned

  abbrev b : Start
  b = s seen

  abbrev load : Load
  load = c.args.self.now.load.now

  abbrev high : Face
  high = face_at (x b) (ls b) (face_depth (ls b) (N b) (x b))

  abbrev low : Face
  low = face_at (x b) (below b) (face_depth (below b) (N b) (x b))

  high_is : c.in_ok-high.high ≡ high
  high_is = c.in_ok-high.ensures.value

  low_is : c.in_ok-low.low ≡ low
  low_is =
      let t = c.turned_over-turned.ensures in
      c.in_ok-low.ensures.value ∙ (λ i. face_at (t.design i) (t.layers i) (face_depth (t.layers i) (N b) (t.design i)))

  m_read : to_z w64 (of_z w64 load.m) ≡ load.m
  m_read = let m : SFits w64 load.m = search rules in to_z-of_z m

  moment_is : c.moment_verdict-moment.result ≡ first load.m high.mrd low.mrd
  moment_is =
      let top : SFits w64 c.in_ok-high.high.mrd = search rules in
      let bottom : SFits w64 c.in_ok-low.low.mrd = search rules in
      c.moment_verdict-moment.ensures ∙ (λ i. first (m_read i) (to_z-of_z top i) (to_z-of_z bottom i))
      ∙ (λ i. first load.m (high_is i).mrd (low_is i).mrd)

  -- the report of both is the answer
  answered : Ok (reported (ls b) (below b) c.args.self.now.links.now load (x b)) ≡ check_faces (x b) (ls b) (below b) c.args.self.now.links.now load
  answered =
      both-reached (x b) (ls b) (below b) c.args.self.now.links.now load (same b) (one seen) (passed _ c.face.ensures.refusal c.in_ok-high.was)
      (sym (reached_below seen) ∙ passed _ c.face-2.ensures.refusal c.in_ok-low.was)

pub returns-in_err-unless : goal.returns-in_err-unless
returns-in_err-unless c =
    let a = (goal.at.returns-in_err-unless c).After-carries_at_one-carried in
    let s = start a in
    let out = refused _ c.unless.ensures _ c.from_residual.ensures.1 c.in_err-unless.was in
    out.1 ∙ one_refused (x s) (ls s) (below s) c.args.self.now.links.now c.args.self.now.load.now (same s) (carried a ∙ out.0)

pub returns-in_err-high : goal.returns-in_err-high
returns-in_err-high c =
    let a = (goal.at.returns-in_err-high c).After-turned_over-turned in
    let b = s a in
    let out = refused _ c.face.ensures.refusal _ c.from_residual-in_err-high.ensures.1 c.in_err-high.was in
    out.1 ∙ top_refused (x b) (ls b) (below b) c.args.self.now.links.now c.args.self.now.load.now (same b) (one a) out.0

pub face-requires-2 : goal.face-requires-2
face-requires-2 c = one_below (goal.at.face-requires-2 c).After-turned_over-turned

pub returns-in_err-low : goal.returns-in_err-low
returns-in_err-low c =
    let a = (goal.at.returns-in_err-low c).After-turned_over-turned in
    let b = s a in
    let out = refused _ c.face-2.ensures.refusal _ c.from_residual-in_err-low.ensures.1 c.in_err-low.was in
    out.1 ∙ bottom_refused (x b) (ls b) (below b) c.args.self.now.links.now c.args.self.now.load.now (same b) (one a) (sym (reached_below a) ∙ out.0)

pub returns-then-self-ge0 : goal.returns-then-self-ge0
returns-then-self-ge0 c =
    let a = (goal.at.returns-then-self-ge0 c).After-moment_verdict-moment in
    let s = b a in
    let k = c.args.self.now.links.now in
    ap Ok (c.report_of.ensures ∙ (λ i. report_of (x s) (ls s) k (load a) (high_is a i) (low_is a i) (moment_is a i))
    ∙ top_compressed (x s) k (load a) (ls s) (below s) _ _ (sym (ap (le_z (pos 0)) (m_read a)) ∙ c.if-self-ge0.true)) ∙ answered a

pub returns-else-self-ge0 : goal.returns-else-self-ge0
returns-else-self-ge0 c =
    let a = (goal.at.returns-else-self-ge0 c).After-moment_verdict-moment in
    let s = b a in
    let k = c.args.self.now.links.now in
    let t = c.turned_over-turned.ensures in
    ap Ok (c.report_of-else-self-ge0.ensures ∙ (λ i. report_of (t.design i) (t.layers i) k (load a) (low_is a i) (high_is a i) (moment_is a i))
    ∙ bottom_compressed (x s) k (load a) (ls s) (below s) _ _ (sym (ap (le_z (pos 0)) (m_read a)) ∙ c.if-self-ge0.false)) ∙ answered a
