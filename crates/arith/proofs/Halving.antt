-- The halving rule of document 02's ticket 12: one candidate remains, it is the greatest number that passes, how many trials it takes, and that
-- they follow from that number alone. Assumes nothing.
use Prim.Native.Nat.{ℕ, zero, suc, ◌+◌, ◌-◌, ◌*◌, ◌^◌, ◌≤◌, ◌<◌}
use mathlib.Core.Bool.{Bool, true, false, cond}
use mathlib.Core.Path.{◌≡◌, refl, sym}
use native.Mathlib.Nat.{pow-succ'}
use native.Mathlib.Omega.{arith}
use lib.Pow.{pow_pos}
use lib.Dec.{ltb}
use borrow.Author.Tests.{ltb-true, ltb-false, le-leb, lt-leb}
use Rattle.arith.specs.Greatest.{greatest}
use Rattle.arith.specs.Halving.{Halving, mean, first, tried, halved_from, halved, kept_up_to}
use Rattle.arith.proofs.Greatest.{NeverBack, Candidates, start, kept, dropped, found, le-greatest, greatest-lt}
use Rattle.arith.proofs.Test.{by_cond}

-- ---- the number of candidates, and what a trial leaves of it

abbrev width : Halving → ℕ
width c = c.greatest + 1 - c.least

-- one trial more, and half of the candidates, rounded down or up
record Halves (c d : Halving) : Type 0 where
  once : d.trials ≡ c.trials + 1
  most : 2 * width d ≤ width c + 1
  least : width c ≤ 2 * width d + 1

halves : (p : ℕ → Bool) (c : Halving) → c.least < c.greatest → Halves c (tried p c)
halves p c more =
    by_cond (Halves c) (p (mean c.least c.greatest))
    (λ t. record { once = refl; most = omega (arith, more); least = omega (arith, more) })
    (λ f. record { once = refl; most = omega (arith, more); least = omega (arith, more) })

-- of at most 2^j candidates t trials leave at most 2^(j − t),
record AtMost (j : ℕ) (c : Halving) : Type 0 where
  left : ℕ
  all : c.trials + left ≡ j
  wide : width c ≤ 2 ^ left

-- and of no fewer than 2^j no fewer than 2^(j − t), as long as t is at most j
record AtLeast (j : ℕ) (c : Halving) : Type 0 where
  left : ℕ
  all : j ≤ c.trials + left
  wide : 2 ^ left ≤ width c

at_most : {j : ℕ} {c d : Halving} → c.least < c.greatest → Halves c d → AtMost j c → AtMost j d
at_most {j} {c} {d} more half q = go q.left q.all q.wide
  where
    go : (k : ℕ) → c.trials + k ≡ j → width c ≤ 2 ^ k → AtMost j d
    go zero e w = absurd (omega (arith, more, w))
    go (suc k) e w = record { left = k; all = omega (arith, half.once, e); wide = omega (arith, half.most, pow-succ' 2 k, w) }

at_least : {j : ℕ} {c d : Halving} → c.least < c.greatest → Halves c d → AtLeast j c → AtLeast j d
at_least {j} {c} {d} more half q = go q.left q.all q.wide
  where
    go : (k : ℕ) → j ≤ c.trials + k → 2 ^ k ≤ width c → AtLeast j d
    go zero e w = record { left = 0; all = omega (arith, half.once, e); wide = omega (arith, half.least, more) }
    go (suc k) e w = record { left = k; all = omega (arith, half.once, e); wide = omega (arith, half.least, pow-succ' 2 k, w) }

-- 2^k candidates are one only where k is 0
none_left : (k : ℕ) → 2 ^ k ≤ 1 → k ≡ 0
none_left zero h = refl
none_left (suc k) h = absurd (omega (arith, h, pow-succ' 2 k, pow_pos k))

-- ---- what every trial keeps holds at the end, where one candidate remains

module _ (p : ℕ → Bool) where
  module _ (Q : Halving → Type 0) (keeps : (c : Halving) → c.least < c.greatest → Q c → Q (tried p c)) where
    abbrev Ended : Halving → Type 0
    Ended c = (c.least ≡ c.greatest) × Q c

    ended : (n : ℕ) (c : Halving) → 1 ≤ width c → width c ≤ n + 1 → Q c → Ended (halved_from p n c)
    unfolding halved_from
    ended zero c some few q = (omega (arith, some, few), q)
    ended (suc n) c some few q =
        by_cond Ended (ltb c.least c.greatest)
        (λ t.
        let more = ltb-true c.least c.greatest t in
        let half = halves p c more in
        ended n (tried p c) (omega (arith, half.least, more)) (omega (arith, half.most, few)) (keeps c more q))
        (λ f. (omega (arith, ltb-false c.least c.greatest f, some), q))

  module _ (m : ℕ) (some : 1 ≤ m) where
    by_rule : (Q : Halving → Type 0) → ((c : Halving) → c.least < c.greatest → Q c → Q (tried p c))
        → Q (first m) → ((halved p m).least ≡ (halved p m).greatest) × Q (halved p m)
    unfolding halved
    by_rule Q keeps q = ended Q keeps m (first m) (omega (arith, some)) (omega arith) q

    -- "until one remains"
    pub one_remains : (halved p m).least ≡ (halved p m).greatest
    one_remains = (by_rule (λ c. Unit {0}) (λ c more q. tt) tt).0

    -- and it is the greatest number that passes, of a test that never comes back
    abbrev Found : Halving → Type 0
    Found c = Candidates p m c.least c.greatest × (1 ≤ c.least)

    finding : NeverBack p → (c : Halving) → c.least < c.greatest → Found c → Found (tried p c)
    finding never c more q =
        let mid = mean c.least c.greatest in
        by_cond Found (p mid)
        (λ t. (kept p mid (omega arith) t q.0, omega (arith, q.1)))
        (λ f. (dropped p never mid (omega arith) (omega arith) f q.0, q.1))

    pub rule_finds : NeverBack p → p 1 ≡ true → (halved p m).least ≡ greatest p m
    rule_finds never one =
        let e = by_rule Found (finding never) (start p m 1 (le-greatest p m 1 some one), omega arith) in
        found p (omega (arith, e.0)) e.1.0

    -- j trials for 2^j candidates; for a number between two powers of two as many as for one of these
    pub trials_most : (j : ℕ) → m ≤ 2 ^ j → (halved p m).trials ≤ j
    trials_most j h =
        let e = by_rule (AtMost j) (λ c more q. at_most more (halves p c more) q) (record { left = j; all = omega arith; wide = omega (arith, h) }) in
        omega (arith, e.1.all)

    pub trials_least : (j : ℕ) → 2 ^ j ≤ m → j ≤ (halved p m).trials
    trials_least j h =
        let e = by_rule (AtLeast j) (λ c more q. at_least more (halves p c more) q) (record { left = j; all = omega arith; wide = omega (arith, h) }) in
        omega (arith, e.1.all, none_left e.1.left (omega (arith, e.0, e.1.wide)))

-- ---- the trials follow from the number that is found

-- what is chosen where a test passes may be replaced by what is the same there
alike : {A : Type 0} (t : Bool) {x y : A} (z : A) → (t ≡ true → x ≡ y) → cond t x z ≡ cond t y z
alike true z f = f refl
alike false z f = refl

-- two tests that agree on the candidates make the same trials
module _ (p q : ℕ → Bool) (m : ℕ) (same : (k : ℕ) → 1 ≤ k → k ≤ m → p k ≡ q k) where
  same_from : (n : ℕ) (c : Halving) → 1 ≤ c.least → c.greatest ≤ m → halved_from p n c ≡ halved_from q n c
  unfolding halved_from
  same_from zero c low high = refl
  same_from (suc n) c low high =
      let mid = mean c.least c.greatest in
      alike (ltb c.least c.greatest) c
      (λ e.
      let more = ltb-true c.least c.greatest e in
      rw (same mid (omega (arith, low)) (omega (arith, more, high)))
      (by_cond (λ (d : Halving). halved_from p n d ≡ halved_from q n d) (q mid)
      (λ t. same_from n _ (omega (arith, low)) high)
      (λ f. same_from n _ low (omega (arith, more, high)))))

  same_halved : halved p m ≡ halved q m
  unfolding halved
  same_halved = same_from m (first m) (omega arith) (omega arith)

-- of a test that never comes back: it passes exactly up to the greatest number that passes
module _ (p : ℕ → Bool) (never : NeverBack p) (m : ℕ) where
  kept_up_to_lem : (k : ℕ) → 1 ≤ k → k ≤ m → p k ≡ kept_up_to (greatest p m) k
  kept_up_to_lem k low high = go (p k) refl
    where
      go : (t : Bool) → p k ≡ t → t ≡ kept_up_to (greatest p m) k
      go true e = sym (le-leb k (greatest p m) (le-greatest p m k high e))
      go false e = sym (lt-leb k (greatest p m) (greatest-lt p never m k low e))

  pub halved_by : halved p m ≡ halved (kept_up_to (greatest p m)) m
  halved_by = same_halved p (kept_up_to (greatest p m)) m kept_up_to_lem
