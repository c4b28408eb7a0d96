-- The test kᵉ·a ≤ y: it never comes back, and where its power and product fit, they fit below, and the number itself fits. Assumes nothing.
use Prim.Native.Nat.{ℕ, suc, ◌^◌, ◌≤◌, ◌<◌}
use native.Mathlib.Nat.{le_trans, mul-le-mul_right, pow-le-pow_left, pow-le-pow_right, pow-suc, pow-zero, one-mul, lt_of_le_of_lt}
use native.Mathlib.Omega.{arith}
use borrow.Author.Tests.{leb-true, le-leb}
use Rattle.arith.proofs.Greatest.{NeverBack}
use Rattle.shear.specs.Code.Power.{power_at_most, PowersFit}

pub never_back : (e a y : ℕ) → NeverBack (power_at_most e a y)
never_back e a y j k z h t = le-leb _ _ (le_trans (mul-le-mul_right a (pow-le-pow_left h e)) (leb-true _ _ t))

-- a smaller number's product fits too
pub fits_below : {e a k m : ℕ} → k ≤ m → PowersFit e a m → PowersFit e a k
fits_below {e} {a} h f = record {
  power = lt_of_le_of_lt (pow-le-pow_left h e) f.power;
  product = lt_of_le_of_lt (mul-le-mul_right a (pow-le-pow_left h e)) f.product;
}

-- and so does the number itself
pub number_fits : {e a k : ℕ} → 1 ≤ e → PowersFit e a (suc k) → suc k < 2 ^ 64
number_fits {e} {a} {k} h f =
    lt_of_le_of_lt (rw (pow-suc (suc k) 0, pow-zero, one-mul) at (pow-le-pow_right {n = suc k} (omega arith) h)) f.power
