-- The powers are small, and the root is q.
use Prim.Native.Nat.{ℕ, ◌^◌, ◌≤◌}
use native.Mathlib.Nat.{mul-le-mul, pow-le-pow_left}
use native.Mathlib.Omega.{arith}
use Rattle.shear.proofs.Roots.{q_is}
use Rattle.shear.proofs.least_root.Goals as goal

cube_high : {k : ℕ} → k ≤ 2000 → k ^ 3 ≤ 8000000000
cube_high h = pow-le-pow_left h 3

pub pow-requires : goal.pow-requires
pow-requires c = omega (arith, cube_high c.requires.1)

pub overflow_mul-root : goal.overflow_mul-root
overflow_mul-root c = rw c.pow.ensures (omega (arith, mul-le-mul c.requires.0 (cube_high c.requires.1)))

pub returns : goal.returns
returns c =
    let a = c.args in
    rw (c.find.ensures, c.pow.ensures) (q_is a.fck a.k)
