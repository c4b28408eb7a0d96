-- The equation by the exits of the code, and the other clauses from it.
use Prim.Native.Nat.{◌≤◌}
use mathlib.Core.Path.{◌≡◌, sym, ap, ◌∙◌}
use lib.IntN.{ℤ}
use mir.Facts.{to_z-of_z}
use Rattle.std.specs.Prelude.{Result}
use Rattle.std.specs.Result.{result_err}
use Rattle.refusals.specs.declared.Refusal.{Refusal}
use Rattle.refusals.specs.Chain.{first_failing}
use Rattle.refusals.proofs.Exits.{passed, refused, returned}
use Rattle.section.specs.declared.Section.{Section}
use Rattle.section.specs.Section.{counted}
use Rattle.section.specs.Load.{force_ok}
use Rattle.section.specs.Code.Accepted.{AcceptedOf}
use Rattle.section.proofs.Usable.{accepted_of}
use Rattle.equilibrium.specs.declared.Depth.{Depth}
use Rattle.equilibrium.specs.Refusals.{find_depth_tests}
use Rattle.equilibrium.specs.Depth.{depth_for, find_depth, trials_found}
use Rattle.equilibrium.specs.Accuracy.{AccurateDepth}
use Rattle.equilibrium.proofs.Found.{find_refused, find_out, find-in, find_clauses}
use Rattle.equilibrium.proofs.find_depth.Goals as goal
use Rattle.equilibrium.proofs.find_depth.Goals.{After-force_ok}

-- the clauses of an answer that is the definition's
clauses : (s : Section) (n : ℤ) {r : Result Depth Refusal} → r ≡ find_depth s n → record {
  value : r ≡ find_depth s n;
  refusal : result_err r ≡ first_failing (find_depth_tests (counted s) n);
  accurate : AccurateDepth s n r;
  never_exceeds_15 : trials_found r ≤ 15;
}
clauses s n e =
    let all = find_clauses s n e in
    record { value = all.0; refusal = all.1.0; accurate = all.1.1.0; never_exceeds_15 = all.1.1.1 }

-- of an accepted section
module _ (c : After-force_ok) where
  face : AcceptedOf c.args.s c.in_ok-face.face
  face = accepted_of c.args.s c.accept.ensures.value c.in_ok-face.ensures.layers c.in_ok-face.was

  load_is : c.force_ok.result ≡ force_ok c.args.n
  load_is = c.force_ok.ensures ∙ ap force_ok (to_z-of_z c.ranges.n)

pub returns-in_err-face : goal.returns-in_err-face
returns-in_err-face c =
    clauses c.args.s c.args.n
    (returned c.from_residual.result c.from_residual.ensures.1 ∙ sym (find_refused c.args.s c.args.n (sym c.in_err-face.ensures.value)))

pub returns-in_err-unless : goal.returns-in_err-unless
returns-in_err-unless c =
    let a = (goal.at.returns-in_err-unless c).After-force_ok in
    let out = refused _ c.unless.ensures _ c.from_residual-in_err-unless.ensures.1 c.in_err-unless.was in
    clauses c.args.s c.args.n (out.1 ∙ sym (find_out c.args.s c.args.n (face a).ready (sym (load_is a) ∙ out.0)))

pub returns : goal.returns
returns c =
    let a = (goal.at.returns c).After-force_ok in
    let within = passed _ c.unless.ensures c.in_ok-unless.was in
    let found = c.depth.ensures.value ∙ (λ i. depth_for c.in_ok-face.face.design ((face a).layers_are i) (to_z-of_z c.ranges.n i)) in
    clauses c.args.s c.args.n (found ∙ sym (find-in c.args.s c.args.n (face a).ready (sym (load_is a) ∙ within)))
