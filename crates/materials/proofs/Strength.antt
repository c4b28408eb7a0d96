-- What the code computes is what the formulas say: by the laws of fractions, with the partial factors left open. L and f are of a row with
-- the block's factors, which are exact. Assumes nothing.
use Prim.Native.Nat.{ℕ, ◌*◌, ◌/◌, ◌≤◌}
use mathlib.Core.Path.{◌≡◌, sym, ap, ◌∙◌}
use native.Mathlib.Nat.{div-one, mul-le-mul_left, mul-le-mul_right}
use native.Mathlib.Omega.{arith}
use lib.Dec.{leb}
use Rattle.arith.specs.Fraction.{Proper, whole, ratio, ◌-ᶠ◌, ◌*ᶠ◌, ◌/ᶠ◌, ◌÷ᶠ◌, Same}
use Rattle.arith.proofs.Fraction.{Positive, proper}
use Rattle.arith.proofs.Floor.{quotient_rises}
use Rattle.arith.proofs.Quotient.{rounded_same, rounded_over}
use Rattle.arith.proofs.Test.{by_cond}
use Rattle.materials.specs.declared.PartialFactors.{PartialFactors}
use Rattle.materials.specs.Situation.{Situation, long_term}
use Rattle.materials.specs.Strength.{depth_factor, strength_factor, L, f, g, s, CRdc, crd}
use Rattle.materials.specs.Code.Factors.{scaled}

-- ---- the block's factors

depth_proper : (k : ℕ) → Proper (depth_factor k)
unfolding depth_factor
depth_proper k = by_cond Proper (leb k 50) (λ e. search proper) (λ e. search proper)

strength_proper : (k : ℕ) → Proper (strength_factor k)
unfolding strength_factor
strength_proper k = by_cond Proper (leb k 50) (λ e. search proper) (λ e. search proper)

-- a row's l is L
pub L-is : (k l : ℕ) → Same (whole l) (whole 80 *ᶠ depth_factor k) → l ≡ L k
unfolding whole L
L-is k l same = sym (rounded_same {m = 1} l (search (proper, depth_proper)) (omega arith) (record { same = sym same.same }) ∙ div-one l)

-- a row's strength factor is at most 1,
pub eta_high : (k n : ℕ) → Same (whole n) (whole 1000 *ᶠ strength_factor k) → n ≤ 1000
unfolding whole ◌-ᶠ◌ ◌*ᶠ◌ ◌/ᶠ◌ strength_factor
eta_high k n = by_cond (λ x. Same (whole n) (whole 1000 *ᶠ x) → n ≤ 1000) (leb k 50) (λ e same. omega arith) (λ e same. omega arith)

-- ---- with αcc, γc and γs left open

αcc-proper : (a : ℕ) → Proper (ratio (long_term a))
unfolding ratio
αcc-proper a = omega arith

module _ (j : PartialFactors) where
  low : 1 ≤ j.concrete
  low = j.concrete_low

  γc-positive : Positive (scaled j).γc
  γc-positive = omega (arith, low)

  pub g_is : (a k : ℕ) → 10 * a * k / j.concrete ≡ g (long_term a) (scaled j) k
  unfolding whole ratio ◌*ᶠ◌ ◌÷ᶠ◌ g
  g_is a k = sym (rounded_same {m = j.concrete} (10 * a * k) (search (αcc-proper, proper, γc-positive)) low (record { same = omega arith }))

  -- what a row's strength factor makes of fck is f
  pub f_is : (a k n : ℕ) → Same (whole n) (whole 1000 *ᶠ strength_factor k) → n * a * k / (100 * j.concrete) ≡ f (long_term a) (scaled j) k
  unfolding whole ratio ◌*ᶠ◌ ◌÷ᶠ◌ f
  f_is a k n same =
      sym
      (rounded_same {m = 100 * j.concrete} (n * a * k) (search (αcc-proper, proper, strength_proper, γc-positive)) (omega (arith, low))
      (record { same = omega (arith, ap (λ (t : ℕ). t * (a * k * j.concrete)) same.same) }))

  pub crd_is : 180 / j.concrete ≡ crd (scaled j)
  unfolding whole ◌*ᶠ◌ ◌/ᶠ◌ ◌÷ᶠ◌ CRdc crd
  crd_is = sym (rounded_same {m = j.concrete} 180 (search (proper, γc-positive)) low (record { same = omega arith }))

pub s_is : (j : PartialFactors) (y : ℕ) → 10000 * y / j.steel ≡ s (scaled j) y
unfolding s
s_is j y = let e : 10000 * y ≡ 100 * y * 100 = omega arith in ap (λ (n : ℕ). n / j.steel) e ∙ sym (rounded_over (100 * y) (scaled j).γs)

-- the steel's strength rises with fyk
pub s-rises : (j : Situation) {y z : ℕ} → y ≤ z → s j y ≤ s j z
unfolding s
s-rises j {y} {z} h =
    rw (rounded_over (100 * y) j.γs, rounded_over (100 * z) j.γs)
    (quotient_rises j.γs.p (mul-le-mul_right j.γs.q (mul-le-mul_left 100 h)))
