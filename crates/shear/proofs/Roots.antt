-- The numbers r, q, v and c of the shear resistance: what the code computes of them, how large they are, and that r and q
-- are the greatest of all numbers that pass, so that their bounds leave nothing out. Assumes nothing.
use mathlib.Core.Path.{◌≡◌, refl}
use mathlib.Core.Bool.{Bool, true, false, cond}
use Prim.Native.Nat.{ℕ, suc, ◌*◌, ◌/◌, ◌^◌, ◌≤◌, ◌<◌}
use native.Mathlib.Nat.{mul-le-mul, mul-le-mul_left, mul-one, pow-le-pow_left, le_of_mul-le-mul_right, max-le, div-le_of_le-mul}
use native.Mathlib.Decide.{dec_le}
use native.Mathlib.Omega.{arith}
use Rattle.std.proofs.lemmas.Int.{ints}
use lib.Dec.{leb, ltb, le→leb}
use lib.IntN.{ℤ, pos, negsuc, nat_abs, ◌*ℤ◌}
use lib.Signed.{le_z}
use Rattle.std.specs.Int.{int_min, int_max}
use borrow.Author.Tests.{leb-true, ltb-false, le-leb}
use Rattle.arith.specs.Floor.{floor_div}
use Rattle.arith.specs.Fraction.{whole, ◌*ᶠ◌, ◌/ᶠ◌}
use Rattle.arith.specs.Greatest.{greatest, IsGreatest}
use Rattle.arith.specs.Integer.{Within}
use Rattle.arith.proofs.Bound.{lit, mul_in}
use Rattle.arith.proofs.Floor.{floor-in}
use Rattle.arith.proofs.Fraction.{tidy, proper, /ᶠ-proper}
use Rattle.arith.proofs.Greatest.{greatest-le, greatest_of_all, greatest_same}
use Rattle.arith.proofs.Quotient.{integer-per, by_value, floor_same}
use Rattle.arith.proofs.Ring.{E, #, ◌⊗◌, val}
use Rattle.shear.specs.Code.Power.{power_at_most}
use Rattle.shear.specs.SizeFactor.{K}
use Rattle.shear.specs.Shear.{r_test, r, q_test, q, v, lesser, c, concrete_share, axial_share, or_zero}
use Rattle.shear.specs.Code.Ranges.{StressBounds}

-- ---- how large they are
pub K-high : (dm : ℕ) → K dm ≤ 2000
unfolding K
K-high dm = omega (arith, greatest-le (λ k. leb (k ^ 2 * dm) 200000000) 1000)

pub r-high : (b fck As dm : ℕ) → r b fck As dm ≤ 5646
unfolding r
r-high b fck As dm = greatest-le (r_test b fck As dm) 5646

pub q-high : (fck k : ℕ) → q fck k ≤ 26832
unfolding q
q-high fck k = greatest-le (q_test fck k) 26832

module _ {crd : ℕ} (factor : crd ≤ 15) where
  pub v_high : (b fck As dm : ℕ) → v crd b fck As dm ≤ 1693800
  unfolding v
  v_high b fck As dm =
      max-le (div-le_of_le-mul 100 (omega (arith, mul-le-mul (mul-le-mul factor (K-high dm)) (r-high b fck As dm)))) (omega (arith, q-high fck (K dm)))

  pub product_high : {b fck As dm : ℕ} → StressBounds b fck As dm → v crd b fck As dm * b * dm ≤ 6771812400000
  product_high {b} {fck} {As} {dm} h = mul-le-mul (mul-le-mul (v_high b fck As dm) h.b-high) h.dm-high

  pub concrete-high : {b fck As dm : ℕ} → StressBounds b fck As dm → concrete_share crd b fck As dm ≤ 6771812
  unfolding concrete_share
  concrete-high h = omega (arith, product_high h)

pub cap_high : {g b h : ℕ} → g ≤ 7500 → b ≤ 2000 → h ≤ 2000 → g * b * h ≤ 30000000000
cap_high x y z = mul-le-mul (mul-le-mul x y) z

lesser-in : (t : Bool) {x y : ℤ} {B : ℕ} → Within x B → Within y B → Within (cond t x y) B
lesser-in true hx hy = hx
lesser-in false hx hy = hy

pub c-in : {N : ℤ} {g b h : ℕ} → Within N 500000000 → g ≤ 7500 → b ≤ 2000 → h ≤ 2000 → Within (c N g b h) 500000000
unfolding c
c-in {N} {g} {b} {h} n x y z =
    lesser-in (le_z N (pos (g * b * h / 500))) n (record { within = omega (arith, cap_high x y z) })

-- what N adds is a division of integers
pub axial_is : (x : ℤ) (dm h : ℕ) → 1 ≤ h → axial_share x dm h ≡ floor_div (pos 15 *ℤ x *ℤ pos dm) (pos (100 * h))
unfolding axial_share
axial_is x dm h low =
    let e : E = # (pos 15) ⊗ # x ⊗ # (pos dm) in
    let over : 1 ≤ 100 * h = omega arith in
    floor_same (val e) (/ᶠ-proper (100 * h) (search proper) (le→leb 1 (100 * h) over)) over
    (by_value e over (rw (integer-per x) (unfold whole ◌*ᶠ◌ ◌/ᶠ◌ in record { same = simp tidy (omega arith) })))

pub axial-in : {x : ℤ} {dm : ℕ} (h : ℕ) → 1 ≤ h → Within x 500000000 → dm ≤ 1999 → Within (axial_share x dm h) 14992500000000
axial-in {x} {dm} h low n z = rw (axial_is x dm h low) (floor-in (pos (100 * h)) (mul_in (mul_in (lit (pos 15)) n) (record { within = z })))

-- ---- what the code computes
module _ (b fck As dm : ℕ) where
  pub r_rich : ltb (b * dm) (50 * As) ≡ true → greatest (power_at_most 3 1 (2000000000 * fck)) 5646 ≡ r b fck As dm
  unfolding r
  r_rich e = greatest_same (power_at_most 3 1 (2000000000 * fck)) (r_test b fck As dm) 5646 (λ k. rw (e, mul-one (k ^ 3)))

  pub r_other : ltb (b * dm) (50 * As) ≡ false → greatest (power_at_most 3 (b * dm) (100000000000 * As * fck)) 5646 ≡ r b fck As dm
  unfolding r
  r_other e = greatest_same (power_at_most 3 (b * dm) (100000000000 * As * fck)) (r_test b fck As dm) 5646 (λ k. rw e)

  -- both, as the code chooses between them
  pub r-either : (t : Bool) → ltb (b * dm) (50 * As) ≡ t
      → greatest (power_at_most 3 (cond t 1 (b * dm)) (cond t (2000000000 * fck) (100000000000 * As * fck))) 5646 ≡ r b fck As dm
  r-either true e = r_rich e
  r-either false e = r_other e

pub q_is : (fck k : ℕ) → greatest (power_at_most 2 1000 (fck * k ^ 3)) 26832 ≡ q fck k
unfolding q
q_is fck k =
    greatest_same (power_at_most 2 1000 (fck * k ^ 3)) (q_test fck k) 26832
    (λ x.
    let left : x ^ 2 * 1000 ≡ 1000 * x ^ 2 = omega arith in
    let right : fck * k ^ 3 ≡ k ^ 3 * fck = omega arith in
    rw (left, right))

-- the lesser of two and the greater of a number and 0, as std finds them
pub min_is : (x y : ℤ) → int_min x y ≡ lesser x y
min_is x y = grind (arith, ints)

pub max_is : (x : ℤ) → nat_abs (int_max x (pos 0)) ≡ or_zero x
max_is (pos k) = grind (arith, ints)
max_is (negsuc k) = refl

-- ---- the greatest of all: what 01 says of r and q
-- a number whose power is below that of the next one
root_below : (e m : ℕ) {k : ℕ} → k ^ e < suc m ^ e → k ≤ m
root_below e m {k} h = below (dec_le (suc m) k)
  where
    below : Dec (suc m ≤ k) → k ≤ m
    below (yes l) = absurd (omega (arith, pow-le-pow_left l e))
    below (no n) = omega arith

cube_below : {fck k : ℕ} → fck ≤ 90 → k ^ 3 ≤ 2000000000 * fck → k ≤ 5646
cube_below h e = root_below 3 5646 (omega arith)

module _ (b fck As dm : ℕ) (bounds : StressBounds b fck As dm) (some : 0 < b * dm) where
  r-below : (k : ℕ) (t : Bool) → ltb (b * dm) (50 * As) ≡ t
      → cond t (leb (k ^ 3) (2000000000 * fck)) (leb (k ^ 3 * (b * dm)) (100000000000 * As * fck)) ≡ true → k ≤ 5646
  r-below k true s e = cube_below bounds.fck_high (leb-true _ _ e)
  r-below k false s e =
      let poor : 50 * As ≤ b * dm = ltb-false (b * dm) (50 * As) s in
      let above : k ^ 3 * (b * dm) ≤ 2000000000 * fck * (b * dm) = omega
      (arith, leb-true (k ^ 3 * (b * dm)) (100000000000 * As * fck) e, mul-le-mul_left (2000000000 * fck) poor) in
      cube_below bounds.fck_high (le_of_mul-le-mul_right above some)

  zero-passes : (t : Bool) → cond t (leb (0 ^ 3) (2000000000 * fck)) (leb (0 ^ 3 * (b * dm)) (100000000000 * As * fck)) ≡ true
  zero-passes true = le-leb (0 ^ 3) (2000000000 * fck) (omega arith)
  zero-passes false = le-leb (0 ^ 3 * (b * dm)) (100000000000 * As * fck) (omega arith)

  pub r-greatest : IsGreatest (r_test b fck As dm) (r b fck As dm)
  unfolding r
  r-greatest =
      greatest_of_all (r_test b fck As dm) 5646 (zero-passes (ltb (b * dm) (50 * As))) (λ k e. r-below k (ltb (b * dm) (50 * As)) refl e)

pub q-greatest : (fck k : ℕ) → fck ≤ 90 → k ≤ 2000 → IsGreatest (q_test fck k) (q fck k)
unfolding q
q-greatest fck k h m =
    greatest_of_all (q_test fck k) 26832 (le-leb (1000 * 0 ^ 2) (k ^ 3 * fck) (omega arith))
    (λ x e. root_below 2 26832 (omega (arith, leb-true (1000 * x ^ 2) (k ^ 3 * fck) e, mul-le-mul (pow-le-pow_left m 3) h)))
