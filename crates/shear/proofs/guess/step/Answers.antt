-- No product passes 64 bits: p is below 2⁴⁶, both factors are at most 4.
use Prim.Native.Nat.{ℕ, ◌+◌, ◌-◌, ◌*◌, ◌^◌, ◌≤◌, ◌<◌}
use native.Mathlib.Nat.{mul-le-mul, le_trans, pow-le-pow_left, pow-le-pow_right}
use native.Mathlib.Omega.{arith}
use Rattle.shear.proofs.guess.step.Given as given
use Rattle.shear.proofs.guess.step.Goals as goal
use Rattle.shear.proofs.guess.step.Goals.{Start, After-pow-p}

power_high : {e g : ℕ} → e ≤ 3 → g < 32768 → g ^ e ≤ 35181150961663
power_high {e} {g} h k =
    let most : g ≤ 32767 = omega arith in
    le_trans (pow-le-pow_left most e) (pow-le-pow_right {n = 32767} (omega arith) h)

module _ {a b p z : ℕ} (h : a ≤ 4) (k : b ≤ 4) (m : p ≤ 35181150961663) (n : z < 274877906944) where
  sum_high : a * p + b * z ≤ 141824115474424
  sum_high =
      let last : z ≤ 274877906943 = omega arith in
      omega (arith, mul-le-mul h m, mul-le-mul k last)

module _ (g : given.Over) where
  less : (c : Start g) → g.row.E - 1 ≤ 4
  less c = omega (arith, c.requires.exponent.1)

  more : (c : Start g) → g.row.E + 1 ≤ 4
  more c = omega (arith, c.requires.exponent.1)

  p_high : (c : After-pow-p g) → c.pow-p.result ≤ 35181150961663
  p_high c = rw c.pow-p.ensures (power_high c.requires.exponent.1 c.requires.small.0)

  above : (c : After-pow-p g) → (g.row.E - 1) * c.pow-p.result + (g.row.E + 1) * c.args.z ≤ 141824115474424
  above c = sum_high (less c.before) (more c.before) (p_high c) c.requires.small.1

  below : (c : After-pow-p g) → (g.row.E + 1) * c.pow-p.result + (g.row.E - 1) * c.args.z ≤ 141824115474424
  below c = sum_high (more c.before) (less c.before) (p_high c) c.requires.small.1

pub pow-p-requires : goal.pow-p-requires
pow-p-requires g c = omega (arith, power_high c.requires.exponent.1 c.requires.small.0)

pub overflow_mul-result : goal.overflow_mul-result
overflow_mul-result g c = omega (arith, above g c)

pub overflow_add-result : goal.overflow_add-result
overflow_add-result g c = omega (arith, above g c)

pub overflow_mul-result-3 : goal.overflow_mul-result-3
overflow_mul-result-3 g c = omega (arith, mul-le-mul c.requires.small.0 (above g c))

pub overflow_mul-result-4 : goal.overflow_mul-result-4
overflow_mul-result-4 g c = omega (arith, below g c)

pub overflow_add-result-2 : goal.overflow_add-result-2
overflow_add-result-2 g c = omega (arith, below g c)

pub overflow_add-result-3 : goal.overflow_add-result-3
overflow_add-result-3 g c = omega (arith, below g c)
