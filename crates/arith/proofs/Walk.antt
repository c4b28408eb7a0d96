-- The walk of `trials_to`, by the number of candidates and how far u lies above the least of them: it makes the trials of the halving rule. Assumes
-- nothing.
use Prim.Native.Nat.{ℕ, zero, suc, ◌+◌, ◌-◌, ◌/◌, ◌≤◌, ◌<◌}
use mathlib.Core.Path.{◌≡◌, sym, ap, ◌∙◌}
use native.Mathlib.Omega.{arith}
use borrow.Author.Tests.{le-leb, lt-leb, lt-ltb, le-ltb}
use Rattle.arith.specs.Halving.{Halving, mean, tried, halved_from, halved, kept_up_to}

module _ (u : ℕ) where
  abbrev state : ℕ → ℕ → ℕ → Halving
  state width above n = record { least = u - above; greatest = u - above + width - 1; trials = n }

  -- what is left to try, at most so many trials, leads where the rule leads
  pub record Walk (m width above n : ℕ) : Type 0 where
    pub below : above < u
    pub left : ℕ
    pub enough : width ≤ left + 1
    pub few : n + left ≤ m
    pub leads : halved_from (kept_up_to u) left (state width above n) ≡ halved (kept_up_to u) m

  pub set_out : (m : ℕ) → 1 ≤ u → Walk m m (u - 1) 0
  unfolding halved
  set_out m low =
      let least_is : u - (u - 1) ≡ 1 = omega arith in
      let greatest-is : u - (u - 1) + m - 1 ≡ m = omega arith in
      record {
        below = omega arith;
        left = m;
        enough = omega arith;
        few = omega arith;
        leads = λ i. halved_from (kept_up_to u) m (record { least = least_is i; greatest = greatest-is i; trials = 0 });
      }

  module _ {m width above n : ℕ} (more : 1 < width) (w : Walk m width above n) where
    -- one trial
    walk_on : {width' above' : ℕ} → above' < u → width' < width → tried (kept_up_to u) (state width above n) ≡ state width' above' (n + 1)
        → Walk m width' above' (n + 1)
    unfolding halved_from
    walk_on {width'} {above'} below fewer next = go w.left w.enough w.few w.leads
      where
        go : (k : ℕ) → width ≤ k + 1 → n + k ≤ m → halved_from (kept_up_to u) k (state width above n) ≡ halved (kept_up_to u) m
            → Walk m width' above' (n + 1)
        go zero e f l = absurd (omega (arith, more, e))
        go (suc k) e f l =
            let one : halved_from (kept_up_to u) k (tried (kept_up_to u) (state width above n)) ≡ halved (kept_up_to u) m
            = rw (lt-ltb (u - above) (u - above + width - 1) (omega (arith, more))) at l in
            record {
              below = below;
              left = k;
              enough = omega (arith, fewer, e);
              few = omega (arith, f);
              leads = sym (ap (halved_from (kept_up_to u) k) next) ∙ one;
            }

    -- it is kept,
    pub walk_kept : width / 2 ≤ above → Walk m (width - width / 2) (above - width / 2) (n + 1)
    walk_kept h =
        let mid = mean (u - above) (u - above + width - 1) in
        let b = w.below in
        let least_is : mid ≡ u - (above - width / 2) = omega (arith, more, h, b) in
        let greatest-is : u - above + width - 1 ≡ u - (above - width / 2) + (width - width / 2) - 1 = omega (arith, more, h, b) in
        walk_on (omega (arith, b)) (omega (arith, more))
        (rw (le-leb mid u (omega (arith, more, h, b))) (λ i. record { least = least_is i; greatest = greatest-is i; trials = n + 1 }))

    -- or not
    pub walk_dropped : above < width / 2 → Walk m (width / 2) above (n + 1)
    walk_dropped h =
        let mid = mean (u - above) (u - above + width - 1) in
        let b = w.below in
        let greatest-is : mid - 1 ≡ u - above + width / 2 - 1 = omega (arith, more, h, b) in
        walk_on b (omega (arith, more))
        (rw (lt-leb mid u (omega (arith, more, h, b))) (λ i. record { least = u - above; greatest = greatest-is i; trials = n + 1 }))

  -- one is left, or none was
  pub arrived : {m width above n : ℕ} → width ≤ 1 → Walk m width above n → n ≡ (halved (kept_up_to u) m).trials
  unfolding halved_from
  arrived {m} {width} {above} {n} done w = go w.left w.leads
    where
      go : (k : ℕ) → halved_from (kept_up_to u) k (state width above n) ≡ halved (kept_up_to u) m → n ≡ (halved (kept_up_to u) m).trials
      go zero l = ap (λ (c : Halving). c.trials) l
      go (suc k) l = ap (λ (c : Halving). c.trials) (rw (le-ltb (u - above) (u - above + width - 1) (omega (arith, done))) at l)
