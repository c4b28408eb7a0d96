-- The depth that is found, and 12 where none is.
use Prim.Native.Nat.{ℕ}
use mathlib.Core.Path.{◌≡◌, refl, ap, sym, ◌∙◌}
use lib.Dec.{leb}
use Rattle.refusals.specs.declared.Refusal.TheVariants.{ForceTooHigh}
use Rattle.refusals.specs.Chain.{test}
use Rattle.refusals.proofs.Exits.{is_missing}
use Rattle.std.specs.Result.{result_err}
use Rattle.section.specs.Code.Accepted.{layers_in}
use Rattle.beyond.specs.Depth.{some_depth}
use Rattle.beyond.proofs.Intervals.{is_none}
use Rattle.equilibrium.specs.Refusals.{reaches}
use Rattle.equilibrium.specs.Depth.{face_depth}
use Rattle.equilibrium.proofs.DepthOne.{one_by}
use Rattle.equilibrium.proofs.Found.{depth_reached}
use Rattle.clauses.proofs.check.Checking.face.Goals as goal
use Rattle.clauses.proofs.check.Checking.face.Goals.{After-depth_above_one}

module _ (c : After-depth_above_one) where
  abbrev depth : ℕ
  depth = face_depth (layers_in c.args.self.now.face.now) c.args.self.now.load.now.n c.args.self.now.face.now.design

  found : c.depth_above_one.result ≡ some_depth depth
  found =
      let loaded = c.under_force-loaded.ensures in
      c.depth_above_one.ensures.value ∙ (λ i. some_depth (face_depth (layers_in (loaded.face i)) (loaded.force i) (loaded.face i).design))

  reached : reaches c.args.self.now.face.now.design (layers_in c.args.self.now.face.now) c.args.self.now.load.now.n ≡ leb 1 depth
  reached =
      let a = c.args.self.now.face.now in
      depth_reached c.args.self.now.load.now.n a.usable (one_by (layers_in a) c.args.self.now.load.now.n a.usable refl ∙ c.requires)

pub returns-in_err-u-clause-refusal : goal.returns-in_err-u-clause-refusal
returns-in_err-u-clause-refusal c =
    let a = (goal.at.returns-in_err-u-clause-refusal c).After-depth_above_one in
    let out = is_missing _ c.ok_or.ensures.value c.from_residual.result c.from_residual.ensures.1 c.in_err-u.was in
    let none = is_none (depth a) (sym (found a) ∙ out.0) in
    ap result_err out.1 ∙ ap (test ForceTooHigh) (sym (reached a ∙ ap (leb 1) none))
