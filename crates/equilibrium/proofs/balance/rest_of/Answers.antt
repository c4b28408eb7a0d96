-- Each goal is its source expression.
use Prim.Native.Nat.{◌*◌, ◌≤◌}
use lib.IntN.{pos}
use Rattle.arith.proofs.Machine.{M, nat, var, num, ◌⊞◌, ◌⊠◌, value}
use Rattle.equilibrium.proofs.Sizes.{steel-rest}
use Rattle.equilibrium.proofs.balance.rest_of.Goals as goal
use Rattle.equilibrium.proofs.balance.rest_of.Goals.{Start}

module _ (c : Start) where
  steel-in : 800 * c.args.x.now.m.s * c.args.steel ≤ 15360000000000
  steel-in = steel-rest c.requires.0 c.requires.1.0

  abbrev steel : M
  steel = nat (800 * c.args.x.now.m.s * c.args.steel) steel-in tt

  abbrev load : M
  load = num (pos 80000) ⊠ var c.ranges.n c.requires.1.1

pub returns : goal.returns
returns c = value (load c.before ⊞ steel c.before) tt
