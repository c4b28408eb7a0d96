-- The bits of a map: how many stand, and which. Assumes nothing.
use mathlib.Core.Path.{◌≡◌, refl, sym, ap, ap₂, ◌∙◌, subst}
use mathlib.Core.Bool.{Bool, true, false, cond}
use mathlib.Core.Logic.{⊎_elim}
use Prim.Native.Nat.{ℕ, zero, suc, ◌+◌, ◌-◌, ◌*◌, ◌/◌, ◌%◌, ◌^◌, ◌≤◌, ◌<◌}
use native.Mathlib.Decide.{le_ind}
use native.Mathlib.Nat.{le_refl, le_trans, le-add_right, le_of_suc-le-suc, lt_of_lt_of_le, eq-or-lt_of_le, mod-lt, mod-one, mod-eq_of_lt}
use native.Mathlib.Nat.{add_comm, one-mul, zero-mul, pow-suc, pow-succ'}
use native.Mathlib.Numerals.{add-one, one-add}
use native.Mathlib.Omega.{arith}
use borrow.Author.Tests.{eqb-true, eqb-false}
use lib.Count.{ones, ones_cat}
use lib.Arith.{digits_lt}
use lib.Dec.{eqb, lit<}
use lib.Pow.{pow_pos, pow_mono, mod-pow-add, shl_exact, high, low, field, mod-mod-pow}
use Rattle.record.specs.Map.{stands, standing, offset, record_length, map_with}

ones_bit : (r : ℕ) → r < 2 → ones r ≡ r
unfolding ones
ones_bit zero h = refl
ones_bit (suc zero) h = refl
ones_bit (suc (suc r)) h = absurd (omega arith)

-- the machine's count of the k lowest bits is the number that stand below k
pub ones_mod : (k m : ℕ) → ones (m % 2 ^ k) ≡ standing m k
unfolding standing
ones_mod zero m = ap ones (mod-one m) ∙ ones_bit 0 (lit< tt)
ones_mod (suc k) m =
    ap (λ (x : ℕ). ones (m % 2 ^ x)) (sym (one-add k))
    ∙ ap ones (mod-pow-add m 1 k)
    ∙ ones_cat k (m / 2 ^ k % 2) (m % 2 ^ k) (mod-lt m (pow_pos k))
    ∙ ap₂ (λ (x y : ℕ). x + y) (ones_bit (m / 2 ^ k % 2) (mod-lt (m / 2 ^ k) (lit< tt))) (ones_mod k m)
    ∙ add_comm (m / 2 ^ k % 2) (standing m k)

pub ones_standing : (m : ℕ) → m < 2 ^ 32 → ones m ≡ standing m 32
ones_standing m h = ap ones (sym (mod-eq_of_lt h)) ∙ ones_mod 32 m

pub shl_one : (k : ℕ) → k < 32 → 1 * 2 ^ k % 4294967296 ≡ 2 ^ k
shl_one k h = shl_exact 1 k 32 (lit< tt) (omega arith) ∙ one-mul (2 ^ k)

-- bit k has room above a number below 2 ^ k
pub bit_fits : (m k : ℕ) → k < 32 → m < 2 ^ k → m + 2 ^ k < 4294967296
bit_fits m k h g =
    let e : 2 ^ suc k ≡ 2 ^ k * 2 = pow-suc 2 k in
    let most : 2 ^ suc k ≤ 4294967296 = pow_mono {i = suc k} {j = 32} h in
    omega arith

-- a bit that does not stand is 0
bit_zero : (m k : ℕ) → stands m k ≡ false → m / 2 ^ k % 2 ≡ 0
bit_zero m k t = zero_of (m / 2 ^ k % 2) (mod-lt (m / 2 ^ k) (lit< tt)) (eqb-false (m / 2 ^ k % 2) 1 t)
  where
    zero_of : (d : ℕ) → d < 2 → (d ≡ 1 → ⊥) → d ≡ 0
    zero_of zero h n = refl
    zero_of (suc zero) h n = absurd (n refl)
    zero_of (suc (suc d)) h n = absurd (omega arith)

-- ---- one bit more
standing-suc : (m k : ℕ) → standing m (suc k) ≡ standing m k + m / 2 ^ k % 2
unfolding standing
standing-suc m k = refl

standing_mono : (m i j : ℕ) → i ≤ j → standing m i ≤ standing m j
unfolding standing
standing_mono m i j h =
    le_ind (λ (k : ℕ). standing m i ≤ standing m k) (le_refl (standing m i)) (λ k g e. le_trans e (le-add_right (standing m k) (m / 2 ^ k % 2))) j h

-- a bit that stands has its eight bytes within the record
pub room : (m k n : ℕ) → k < 32 → stands m k ≡ true → record_length m ≤ n → offset m k + 8 ≤ n
room m k n h t g =
    let one : m / 2 ^ k % 2 ≡ 1 = eqb-true (m / 2 ^ k % 2) 1 t in
    let up : standing m (suc k) ≤ standing m 32 = standing_mono m (suc k) 32 h in
    let is : standing m (suc k) ≡ standing m k + m / 2 ^ k % 2 = standing-suc m k in
    omega arith

-- where the next bit's bytes begin
pub offset_yes : (m k : ℕ) → stands m k ≡ true → offset m (k + 1) ≡ offset m k + 8
offset_yes m k t =
    let one : m / 2 ^ k % 2 ≡ 1 = eqb-true (m / 2 ^ k % 2) 1 t in
    let is : standing m (k + 1) ≡ standing m k + m / 2 ^ k % 2 = ap (standing m) (add-one k) ∙ standing-suc m k in
    omega arith

pub offset_no : (m k : ℕ) → stands m k ≡ false → offset m (k + 1) ≡ offset m k
offset_no m k t =
    let none : m / 2 ^ k % 2 ≡ 0 = bit_zero m k t in
    let is : standing m (k + 1) ≡ standing m k + m / 2 ^ k % 2 = ap (standing m) (add-one k) ∙ standing-suc m k in
    omega arith

-- no bit from n on stands in a number below 2 ^ n
pub standing-below : (m n : ℕ) → n ≤ 32 → m < 2 ^ n → standing m 32 ≡ standing m n
standing-below m n h g =
    sym (ones_mod 32 m) ∙ ap ones (mod-eq_of_lt (lt_of_lt_of_le g (pow_mono {i = n} {j = 32} h)) ∙ sym (mod-eq_of_lt g)) ∙ ones_mod n m

-- ---- the map in which chosen bits stand
module _ (p : ℕ → Bool) where
  abbrev digit : ℕ → ℕ
  digit k = cond (p k) 1 0

  -- as a number with the highest digit first
  map-suc : (n : ℕ) → map_with p (suc n) ≡ digit n * 2 ^ n + map_with p n
  unfolding map_with
  map-suc n = add_comm (map_with p n) (cond (p n) (2 ^ n) 0) ∙ ap (λ (x : ℕ). x + map_with p n) (times (p n))
    where
      times : (t : Bool) → cond t (2 ^ n) 0 ≡ cond t 1 0 * 2 ^ n
      times true = sym (one-mul (2 ^ n))
      times false = sym (zero-mul (2 ^ n))

  digit-small : (t : Bool) → cond t 1 0 < 2
  digit-small true = lit< tt
  digit-small false = lit< tt

  pub map_below : (n : ℕ) → map_with p n < 2 ^ n
  unfolding map_with
  map_below zero = lit< tt
  map_below (suc n) = rw (map-suc n, pow-succ' 2 n) (digits_lt (digit-small (p n)) (map_below n))

  map_bit : (n k : ℕ) → k < n → map_with p n / 2 ^ k % 2 ≡ digit k
  map_bit zero k h = absurd (omega arith)
  map_bit (suc n) k h =
      ⊎_elim
      (λ e. subst (λ (i : ℕ). map_with p (suc n) / 2 ^ i % 2 ≡ digit i) (sym e)
      (ap (λ (x : ℕ). x / 2 ^ n % 2) (map-suc n) ∙ ap (λ (x : ℕ). x % 2) (high (digit n) n (map_below n)) ∙ mod-eq_of_lt (digit-small (p n))))
      (λ l.
      lower (map_with p (suc n)) n k l
      ∙ ap (λ (x : ℕ). x / 2 ^ k % 2) (ap (λ (x : ℕ). x % 2 ^ n) (map-suc n) ∙ low (digit n) n (map_below n)) ∙ map_bit n k l)
      (eq-or-lt_of_le (le_of_suc-le-suc h))
    where
      -- a digit below n is one of the n lowest
      lower : (x n k : ℕ) → k < n → x / 2 ^ k % 2 ≡ x % 2 ^ n / 2 ^ k % 2
      lower x n k h =
          let e : n - suc k + 1 + k ≡ n = omega arith in
          sym (ap (λ (i : ℕ). x % 2 ^ i / 2 ^ k % 2) (sym e) ∙ ap (λ (y : ℕ). y % 2) (field x (n - suc k + 1) k) ∙ mod-mod-pow (x / 2 ^ k) (n - suc k) 1)

  -- those bits stand and no others
  pub map-stands : (n k : ℕ) → k < n → stands (map_with p n) k ≡ p k
  map-stands n k h = ap (λ (d : ℕ). eqb d 1) (map_bit n k h) ∙ test (p k)
    where
      test : (t : Bool) → eqb (cond t 1 0) 1 ≡ t
      test true = refl
      test false = refl
