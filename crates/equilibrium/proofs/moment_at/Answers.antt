-- The equation by the exits of the code.
use Prim.Native.Nat.{ℕ, ◌*◌}
use mathlib.Core.Bool.{◌&&◌}
use mathlib.Core.Path.{◌≡◌, sym, ap, ◌∙◌}
use borrow.Author.Rules.{rules}
use lib.Dec.{leb}
use lib.IntN.{ℤ}
use Rattle.std.specs.Prelude.{Result}
use Rattle.std.specs.Result.{result_err}
use Rattle.refusals.specs.declared.Refusal.{Refusal}
use Rattle.refusals.specs.Chain.{first_failing}
use Rattle.refusals.proofs.Exits.{passed, refused, returned}
use Rattle.arith.proofs.Machine.{result}
use Rattle.section.specs.declared.Section.{Section}
use Rattle.section.specs.Section.{counted}
use Rattle.section.specs.Code.Accepted.{AcceptedOf}
use Rattle.section.proofs.Usable.{accepted_of}
use Rattle.equilibrium.specs.Refusals.{moment_tests}
use Rattle.equilibrium.specs.Moment.{resistance_at, moment_at}
use Rattle.equilibrium.proofs.Found.{moment_refused, moment_ready, moment_clauses}
use Rattle.equilibrium.proofs.moment_at.Goals as goal
use Rattle.equilibrium.proofs.moment_at.Goals.{After-contains}

-- the clauses of an answer that is the definition's
clauses : (s : Section) (u : ℕ) {r : Result ℤ Refusal} → r ≡ moment_at s u → record {
  value : r ≡ moment_at s u;
  refusal : result_err r ≡ first_failing (moment_tests (counted s) u);
}
clauses s u e = let both = moment_clauses s u e in record { value = both.0; refusal = both.1 }

-- of an accepted section
module _ (c : After-contains) where
  face : AcceptedOf c.args.s c.in_ok-face.face
  face = accepted_of c.args.s c.accept.ensures.value c.in_ok-face.ensures.layers c.in_ok-face.was

  range_is : c.contains.result ≡ (leb 1 c.args.u && leb c.args.u (30 * c.in_ok-face.face.design.h))
  range_is = search rules

pub returns-in_err-face : goal.returns-in_err-face
returns-in_err-face c =
    clauses c.args.s c.args.u
    (returned c.from_residual.result c.from_residual.ensures.1 ∙ sym (moment_refused c.args.s c.args.u (sym c.in_err-face.ensures.value)))

pub returns-in_err-unless : goal.returns-in_err-unless
returns-in_err-unless c =
    let a = (goal.at.returns-in_err-unless c).After-contains in
    let out = refused _ c.unless.ensures _ c.from_residual-in_err-unless.ensures.1 c.in_err-unless.was in
    clauses c.args.s c.args.u (out.1 ∙ sym (moment_ready c.args.s c.args.u (face a).ready ∙ rw (sym (range_is a) ∙ out.0)))

pub returns : goal.returns
returns c =
    let a = (goal.at.returns c).After-contains in
    let within = passed _ c.unless.ensures c.in_ok-unless.was in
    let found = c.moment_resistance.ensures ∙ ap (λ ls. resistance_at c.in_ok-face.face.design ls c.args.u) (face a).layers_are in
    clauses c.args.s c.args.u
    (sym (moment_ready c.args.s c.args.u (face a).ready ∙ simp (sym (range_is a) ∙ within, result c.moment_resistance.type_inv found)))
