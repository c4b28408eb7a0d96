-- Decimal text: its last digit and the others, and how long it is. Assumes nothing.
use mathlib.Core.Path.{◌≡◌, refl, sym, ap, ◌∙◌, subst}
use mathlib.Core.Bool.{Bool, true, false, cond}
use mathlib.Core.List.{List, [], ◌∷◌, ◌++◌}
use Prim.Native.Nat.{ℕ, zero, suc, ◌+◌, ◌/◌, ◌%◌, ◌^◌, ◌≤◌, ◌<◌}
use native.Mathlib.Nat.{pow-suc, div-lt_iff_lt-mul}
use native.Mathlib.Omega.{arith}
use borrow.Author.Tests.{lt-ltb, le-ltb, ltb-true, ltb-false}
use lib.Dec.{lit<, ltb}
use lib.IntN.{ℤ, pos, negsuc, nat_abs}
use lib.ListN.{length, length-append}
use lib.Signed.{◌<ℤ◌, ◌≤ℤ◌}
use Rattle.arith.proofs.Ring.{of_lt}
use Rattle.listing.specs.Text.{digit, digits_in, natural, integer}

-- one step of the definition
few : (f n : ℕ) → n < 10 → digits_in (suc f) n ≡ digit n ∷ []
unfolding digits_in
few f n h = ap (λ (b : Bool). cond b (digit n ∷ []) (digits_in f (n / 10) ++ (digit (n % 10) ∷ []))) (lt-ltb n 10 h)

many : (f n : ℕ) → 10 ≤ n → digits_in (suc f) n ≡ digits_in f (n / 10) ++ (digit (n % 10) ∷ [])
unfolding digits_in
many f n h = ap (λ (b : Bool). cond b (digit n ∷ []) (digits_in f (n / 10) ++ (digit (n % 10) ∷ []))) (le-ltb n 10 h)

-- how many digits are allowed for does not matter, where they are enough
enough : (f g n : ℕ) → n ≤ f → n ≤ g → digits_in (suc f) n ≡ digits_in (suc g) n
enough zero g n p q = few zero n (omega arith) ∙ sym (few g n (omega arith))
enough (suc f) zero n p q = few (suc f) n (omega arith) ∙ sym (few zero n (omega arith))
enough (suc f) (suc g) n p q = go (enough f g (n / 10)) (ltb n 10) refl
  where
    go : (n / 10 ≤ f → n / 10 ≤ g → digits_in (suc f) (n / 10) ≡ digits_in (suc g) (n / 10)) → (t : Bool) → ltb n 10 ≡ t
        → digits_in (suc (suc f)) n ≡ digits_in (suc (suc g)) n
    go e true t = few (suc f) n (ltb-true n 10 t) ∙ sym (few (suc g) n (ltb-true n 10 t))
    go e false t =
        let h = ltb-false n 10 t in
        many (suc f) n h
        ∙ ap (λ (l : List ℕ). l ++ (digit (n % 10) ∷ [])) (e (omega arith) (omega arith))
        ∙ sym (many (suc g) n h)

pub natural-one : (n : ℕ) → n < 10 → natural n ≡ digit n ∷ []
unfolding natural
natural-one n h = few n n h

pub natural_more : (n : ℕ) → 10 ≤ n → natural n ≡ natural (n / 10) ++ (digit (n % 10) ∷ [])
unfolding natural
natural_more zero h = absurd (omega arith)
natural_more (suc n) h =
    many (suc n) (suc n) h ∙ ap (λ (l : List ℕ). l ++ (digit (suc n % 10) ∷ [])) (enough n (suc n / 10) (suc n / 10) (omega arith) (omega arith))

-- ---- lengths

pub length_more : (n : ℕ) → 10 ≤ n → length (natural n) ≡ length (natural (n / 10)) + 1
length_more n h = ap length (natural_more n h) ∙ length-append (natural (n / 10)) (digit (n % 10) ∷ [])

-- a number below 10 ^ (k + 1) has at most k + 1 digits
pub natural-most : (k n : ℕ) → n < 10 ^ suc k → length (natural n) ≤ suc k
natural-most zero n h = let e : n < 10 = h in omega (arith, ap length (natural-one n e))
natural-most (suc k) n h = go (natural-most k (n / 10)) (ltb n 10) refl
  where
    go : (n / 10 < 10 ^ suc k → length (natural (n / 10)) ≤ suc k) → (t : Bool) → ltb n 10 ≡ t → length (natural n) ≤ suc (suc k)
    go e true t = omega (arith, ap length (natural-one n (ltb-true n 10 t)))
    go e false t =
        omega (arith, length_more n (ltb-false n 10 t), e ((div-lt_iff_lt-mul (lit< tt)).1 (subst (λ (x : ℕ). n < x) (pow-suc 10 (suc k)) h)))

pub integer-most : (x : ℤ) → nat_abs x ≤ 2 ^ 63 → length (integer x) ≤ 20
unfolding integer
integer-most (pos n) h = natural-most 19 n (omega arith)
integer-most (negsuc n) h = omega (arith, natural-most 18 (suc n) (omega arith))

-- ---- signs

pub integer-low : (x : ℤ) → x <ℤ pos 0 → integer x ≡ 45 ∷ natural (nat_abs x)
unfolding integer
integer-low (pos n) h = absurd (omega (arith, of_lt (pos n) (pos 0) h))
integer-low (negsuc n) h = refl

pub integer-high : (x : ℤ) → pos 0 ≤ℤ x → integer x ≡ natural (nat_abs x)
unfolding integer
integer-high (pos n) h = refl
integer-high (negsuc n) h = absurd h.le
