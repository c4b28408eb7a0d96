-- Each goal is its source expression.
use Prim.Native.Nat.{ℕ, ◌*◌, ◌≤◌}
use mathlib.Core.Path.{◌≡◌, ap, ◌∙◌}
use native.Mathlib.Nat.{mul-le-mul}
use native.Mathlib.Omega.{arith}
use lib.IntN.{pos, ◌+ℤ◌, ◌-ℤ◌, ◌*ℤ◌}
use mir.Syntax.{w64}
use mir.Val.{to_z}
use Rattle.arith.proofs.Bound.{fits64}
use Rattle.arith.proofs.Machine.{M, nat, call, ◌⊞◌, ◌⊟◌, ◌⊠◌, fits, value, raw}
use Rattle.equilibrium.specs.Code.Whole.{rest_at, excess, excess_by}
use Rattle.equilibrium.proofs.Sizes.{concrete-high, rest_in, lift_sum_high}
use Rattle.equilibrium.proofs.balance.Balance.excess.Goals as goal
use Rattle.equilibrium.proofs.balance.Balance.excess.Goals.{After-rest}

module _ (c : After-rest) where
  concrete-in : c.concrete.result * c.args.u ≤ 15360000000000
  concrete-in =
      let h : c.concrete.result ≤ 768000000 = omega (arith, c.concrete.ensures, concrete-high c.args.self.now.usable.bounded) in
      mul-le-mul h c.requires.1

  abbrev concrete : M
  concrete = nat (c.concrete.result * c.args.u) concrete-in tt

  abbrev rest : M
  rest =
      let b = c.args.self.now in
      call c.rest.type_inv c.rest.ensures (rest_in b.usable.bounded b.steel_high b.load)

  abbrev depth : M
  depth = nat c.args.u c.requires.1 tt

  lift-in : 800 * c.args.lift ≤ 614400000000000000
  lift-in = omega (arith, c.requires.0, lift_sum_high {u = c.args.u} c.args.self.now.usable c.requires.1)

  abbrev lift : M
  lift = nat (800 * c.args.lift) lift-in tt

  abbrev over : M
  over = (concrete ⊟ rest) ⊠ depth ⊞ lift

  is : to_z w64 (raw over) ≡ excess c.args.self.now.design.now c.args.self.now.layers.now c.args.self.now.n c.args.u
  unfolding excess
  is =
      let b = c.args.self.now in
      value over tt
      ∙ ap (λ (k : ℕ). (pos (k * c.args.u) -ℤ rest_at b.design.now b.steel b.n) *ℤ pos c.args.u +ℤ pos (800 * c.args.lift)) c.concrete.ensures
      ∙ (λ i. excess_by b.design.now (b.area i) b.n (c.requires.0 i) c.args.u)

pub overflow_sub-result : goal.overflow_sub-result
overflow_sub-result c = fits (concrete c ⊟ rest c) tt

pub overflow_mul-result-2 : goal.overflow_mul-result-2
overflow_mul-result-2 c = let a = (goal.at.overflow_mul-result-2 c).After-rest in fits ((concrete a ⊟ rest a) ⊠ depth a) tt

pub overflow_mul-result-3 : goal.overflow_mul-result-3
overflow_mul-result-3 c = omega (arith, lift-in c)

pub overflow_cast-result-3 : goal.overflow_cast-result-3
overflow_cast-result-3 c = fits64 {B = 614400000000000000} (record { within = lift-in c }) tt

pub overflow_add-result : goal.overflow_add-result
overflow_add-result c = fits (over (goal.at.overflow_add-result c).After-rest) tt

pub returns : goal.returns
returns c = is (goal.at.returns c).After-rest
