-- Both sides of the comparison as they are read.
use Prim.Native.Nat.{ℕ, ◌*◌, ◌≤◌}
use mathlib.Core.Path.{◌≡◌, ap, ◌∙◌}
use native.Mathlib.Omega.{arith}
use lib.IntN.{pos}
use lib.Signed.{le_z}
use mir.Syntax.{w64}
use mir.Val.{to_z}
use mir.Facts.{to_z-of_z}
use Rattle.arith.proofs.Machine.{M, nat, value, result}
use Rattle.equilibrium.specs.Code.Whole.{rest_at}
use Rattle.equilibrium.proofs.Sizes.{concrete-high}
use Rattle.equilibrium.proofs.balance.carries_at_one.Goals as goal
use Rattle.equilibrium.proofs.balance.carries_at_one.Goals.{After-concrete_of}

module _ (c : After-concrete_of) where
  concrete-in : c.concrete_of.result ≤ 768000000
  concrete-in = omega (arith, c.concrete_of.ensures, concrete-high c.requires.0)

  abbrev concrete : M
  concrete = nat c.concrete_of.result concrete-in tt

  concrete-read : to_z w64 c.concrete_of.result ≡ pos (c.args.x.now.m.f * c.args.x.now.m.l * c.args.x.now.b)
  concrete-read = value concrete tt ∙ ap (λ (k : ℕ). pos k) c.concrete_of.ensures

pub returns : goal.returns
returns c =
    let s = c.before.before in
    let rest = result c.rest_of.type_inv (c.rest_of.ensures ∙ ap (rest_at s.args.x.now s.args.steel) (to_z-of_z s.ranges.n)) in
    λ i. le_z (concrete-read c.before i) (rest i)
