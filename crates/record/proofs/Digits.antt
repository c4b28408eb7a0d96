-- Big-endian bytes and two's complement. Assumes nothing.
use mathlib.Core.Path.{◌≡◌, refl, sym, ap, ap₂, ◌∙◌}
use mathlib.Core.List.{List, [], ◌∷◌, ◌++◌, append_assoc, append-nil}
use Prim.Native.Nat.{ℕ, zero, suc, ◌+◌, ◌-◌, ◌*◌, ◌/◌, ◌%◌, ◌^◌, ◌≤◌, ◌<◌, zero-le}
use native.Mathlib.Nat.{lt_of_lt_of_le, pow-suc, pow-succ', pow-le-pow_right, add-zero, add-suc, mul_assoc, mod-one, div-div-eq-div-mul}
use native.Mathlib.Numerals.{add-one}
use native.Mathlib.Omega.{arith}
use borrow.Author.Tests.{lt-ltb, le-ltb, ltb-false}
use borrow.Table.Steps.{cases}
use lib.Arith.{mod-mul}
use lib.Dec.{ltb, lit<}
use lib.IntN.{ℤ, pos, negsuc, neg_ℤ, nat_abs, ◌-ℤ◌}
use lib.ListN.{length, get_or, take, drop, length-append}
use lib.Seq.{get_or-append-add, get_or_at, get_or-take}
use lib.Signed.{mag, ◌<ℤ◌, ◌≤ℤ◌}
use mir.Val.{Fits, to_z}
use mir.Facts.{to_z_pos}
use Rattle.arith.proofs.Ring.{of_lt, #, ◌⊝◌, ring}
use Rattle.std.specs.Int.{w8, w32, w64, cast_signed, cast_unsigned, byte_at, bytes_high_first, from_be_bytes, to_be_bytes}
use Rattle.std.proofs.lemmas.List.{get_or-drop}
use Rattle.record.specs.Bytes.{number_at, bytes_of, signed, unsigned}

-- ---- the number of bytes
pub number_below : (xs : List ℕ) (at : ℕ) → ((i : ℕ) → Fits w8 (get_or xs i 0)) → (n : ℕ) → number_at xs at n < 256 ^ n
unfolding number_at
number_below xs at small zero = lit< tt
number_below xs at small (suc n) =
    let h = number_below xs at small n in
    let b = (small (at + n)).fits in
    rw (pow-suc 256 n) (omega arith)

-- ---- the bytes of a number
pub length_bytes : (n v : ℕ) → length (bytes_of n v) ≡ n
unfolding bytes_of
length_bytes zero v = refl
length_bytes (suc n) v = length-append (bytes_of n (v / 256)) (v % 256 ∷ []) ∙ ap (λ (k : ℕ). k + 1) (length_bytes n (v / 256)) ∙ add-one n

-- a number of two parts: the bytes of the high one, and then those of the low one
pub pair : (i j d a : ℕ) → a < 256 ^ j → bytes_of (i + j) (d * 256 ^ j + a) ≡ bytes_of i d ++ bytes_of j a
unfolding bytes_of
pair i zero d a h = ap₂ bytes_of (add-zero i) (omega arith) ∙ sym (append-nil (bytes_of i d))
pair i (suc j) d a h =
    let e : d * 256 ^ suc j + a ≡ d * 256 ^ j * 256 + a = ap (λ (x : ℕ). d * x + a) (pow-suc 256 j) ∙ ap (λ (x : ℕ). x + a) (sym (mul_assoc d (256 ^ j) 256)) in
    let s = shift (d * 256 ^ j) a in
    let low : a / 256 < 256 ^ j = below (256 ^ j) (rw (pow-suc 256 j) at h) in
    ap₂ bytes_of (add-suc i j) e
    ∙ ap₂ (λ (x y : ℕ). bytes_of (i + j) x ++ (y ∷ [])) s.0 s.1
    ∙ ap (λ (l : List ℕ). l ++ (a % 256 ∷ [])) (pair i j d (a / 256) low)
    ∙ append_assoc (bytes_of i d) (bytes_of j (a / 256)) (a % 256 ∷ [])
  where
    shift : (x a : ℕ) → ((x * 256 + a) / 256 ≡ x + a / 256) × ((x * 256 + a) % 256 ≡ a % 256)
    shift x a = (omega arith, omega arith)

    below : (x : ℕ) → a < x * 256 → a / 256 < x
    below x h = omega arith

-- what was written is read
pub number_at-bytes_of : (n v : ℕ) (p q : List ℕ) → number_at (p ++ (bytes_of n v ++ q)) (length p) n ≡ v % 256 ^ n
unfolding number_at bytes_of
number_at-bytes_of zero v p q = sym (mod-one v)
number_at-bytes_of (suc n) v p q =
    let B = bytes_of n (v / 256) in
    let r = v % 256 ∷ q in
    let e : (B ++ (v % 256 ∷ [])) ++ q ≡ B ++ r = append_assoc B (v % 256 ∷ []) q in
    ap (λ (l : List ℕ). number_at (p ++ l) (length p) n * 256 + get_or (p ++ l) (length p + n) 0) e
    ∙ ap₂ (λ (x y : ℕ). x * 256 + y) (number_at-bytes_of n (v / 256) p r)
    (get_or-append-add p (B ++ r) n 0 ∙ get_or_at B (v % 256) q 0 n (length_bytes n (v / 256)))
    ∙ sym (mod-mul v (lt_of_lt_of_le (lit< tt) (pow-le-pow_right {n = 256} (lit< tt) {i = 0} {j = n} zero-le)) (lit< tt))
    ∙ ap (λ (k : ℕ). v % k) (sym (pow-suc 256 n))

-- ---- two's complement: v from 2 ^ 63 on is −1 less 2 ^ 64 − 1 − v
pub signed_high : (v : ℕ) → 2 ^ 63 ≤ v → v < 2 ^ 64 → signed v ≡ negsuc (2 ^ 64 - 1 - v)
signed_high v h g = rw (le-ltb v (2 ^ 63) h) (negative (2 ^ 64 - v) (2 ^ 64 - 1 - v) (omega arith))
  where
    negative : (n k : ℕ) → n ≡ suc k → neg_ℤ (pos n) ≡ negsuc k
    negative n k e = rw e

pub less_one : (n : ℕ) → n < 2 ^ 63 → negsuc 0 -ℤ to_z w64 n ≡ negsuc n
less_one n h = ap (λ (z : ℤ). negsuc 0 -ℤ z) (to_z_pos w64 h) ∙ ring (# (negsuc 0) ⊝ # (pos n)) (# (negsuc n)) (omega arith)

-- and back: a number below 0 is |x| less than 2 ^ 64
pub record Low (x : ℤ) : Type 0 where
  pub some : 1 ≤ nat_abs x
  pub most : nat_abs x ≤ 2 ^ 64
  pub is : unsigned x ≡ 2 ^ 64 - nat_abs x

pub unsigned-low : (x : ℤ) → mag x < 2 ^ 63 → x <ℤ pos 0 → Low x
unsigned-low (pos n) f h = absurd (omega (arith, of_lt (pos n) (pos 0) h))
unsigned-low (negsuc n) f h = record { some = omega arith; most = omega arith; is = refl }

pub unsigned-high : (x : ℤ) → pos 0 ≤ℤ x → nat_abs x ≡ unsigned x
unsigned-high (pos n) h = refl
unsigned-high (negsuc n) h = absurd h.le

-- there and back
pub unsigned-fits : (x : ℤ) → mag x < 2 ^ 63 → unsigned x < 2 ^ 64
unsigned-fits (pos n) h = omega arith
unsigned-fits (negsuc n) h = omega arith

pub signed-unsigned : (x : ℤ) → mag x < 2 ^ 63 → signed (unsigned x) ≡ x
signed-unsigned (pos n) h = rw (lt-ltb n (2 ^ 63) h)
signed-unsigned (negsuc n) h =
    let e : 2 ^ 64 - 1 - (2 ^ 64 - suc n) ≡ n = omega arith in
    signed_high (2 ^ 64 - suc n) (omega arith) (omega arith) ∙ ap negsuc e

-- ---- the same in std's words
pub cast-signed : (v : ℕ) → v < 2 ^ 64 → cast_signed w64 v ≡ signed v
cast-signed v h = cases (ltb v (2 ^ 63))
    (λ t. rw t)
    (λ f.
    let high : cast_signed w64 v ≡ negsuc (2 ^ 64 - suc v) = rw f in
    let e : 2 ^ 64 - suc v ≡ 2 ^ 64 - 1 - v = omega arith in
    high ∙ ap negsuc e ∙ sym (signed_high v (ltb-false v (2 ^ 63) f) h))

pub cast-unsigned : (x : ℤ) → cast_unsigned w64 x ≡ unsigned x
cast-unsigned (pos n) = refl
cast-unsigned (negsuc n) = refl

module _ (xs : List ℕ) (at : ℕ) where
  byte : (n i : ℕ) → i < n → get_or (take n (drop at xs)) i 0 ≡ get_or xs (at + i) 0
  byte n i h = get_or-take n (drop at xs) i 0 h ∙ get_or-drop at xs i 0

  pub from_four : from_be_bytes w32 (take 4 (drop at xs)) ≡ number_at xs at 4
  unfolding number_at
  from_four = omega (arith, byte 4 0 (lit< tt), byte 4 1 (lit< tt), byte 4 2 (lit< tt), byte 4 3 (lit< tt))

  pub from_eight : from_be_bytes w64 (take 8 (drop at xs)) ≡ number_at xs at 8
  unfolding number_at
  from_eight =
      omega (
        arith,
        byte 8 0 (lit< tt),
        byte 8 1 (lit< tt),
        byte 8 2 (lit< tt),
        byte 8 3 (lit< tt),
        byte 8 4 (lit< tt),
        byte 8 5 (lit< tt),
        byte 8 6 (lit< tt),
        byte 8 7 (lit< tt),
      )

-- the lowest byte comes last, and the others are those of the number that is left
byte_more : (i v : ℕ) → byte_at (suc i) v ≡ byte_at i (v / 256)
byte_more zero v = refl
byte_more (suc i) v =
    ap (λ (k : ℕ). v / k % 256) (pow-succ' 256 (suc i)) ∙ ap (λ (x : ℕ). x % 256) (sym (div-div-eq-div-mul v 256 (256 ^ suc i)))

bytes_more : (n v : ℕ) → bytes_high_first (suc n) v ≡ bytes_high_first n (v / 256) ++ (v % 256 ∷ [])
bytes_more zero v = refl
bytes_more (suc n) v = ap₂ (λ (b : ℕ) (bs : List ℕ). b ∷ bs) (byte_more n v) (bytes_more n v)

bytes_same : (n v : ℕ) → bytes_high_first n v ≡ bytes_of n v
unfolding bytes_of
bytes_same zero v = refl
bytes_same (suc n) v = bytes_more n v ∙ ap (λ (bs : List ℕ). bs ++ (v % 256 ∷ [])) (bytes_same n (v / 256))

pub to_four : (v : ℕ) → to_be_bytes w32 v ≡ bytes_of 4 v
to_four v = bytes_same 4 v

pub to_eight : (v : ℕ) → to_be_bytes w64 v ≡ bytes_of 8 v
to_eight v = bytes_same 8 v
