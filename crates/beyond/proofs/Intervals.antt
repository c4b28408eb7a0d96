-- The search by intervals finds the least depth that reaches N, or that none does. Assumes nothing.
use Prim.Native.Nat.{ℕ, zero, suc, min, ◌+◌, ◌-◌, ◌*◌, ◌/◌, ◌≤◌, ◌<◌}
use mathlib.Core.Bool.{true, false}
use mathlib.Core.List.{List}
use mathlib.Core.Path.{◌≡◌, refl, sym, ap, ◌∙◌}
use native.Mathlib.Omega.{arith}
use lib.IntN.{ℤ}
use lib.Signed.{lt_z}
use mir.Facts.{to_z-of_z}
use Rattle.std.proofs.Common.{None, Some}
use Rattle.arith.specs.Greatest.{least, IsLeast}
use Rattle.arith.proofs.Least.{skip, least_first, least_none, least_is, least_fails}
use Rattle.arith.proofs.Ring.{≤ℤ-<ℤ-trans}
use Rattle.arith.proofs.Test.{lt-true, lt-false, true-le, false-le}
use Rattle.section.specs.declared.Layer.{Layer}
use Rattle.section.specs.declared.Design.{Design}
use Rattle.beyond.specs.Depth.{reached_at, least_reaching, some_depth}
use Rattle.beyond.specs.Force.{internal_force}
use Rattle.beyond.specs.Code.Bound.{bound}
use Rattle.beyond.specs.Code.Range.{Beyond}
use Rattle.beyond.proofs.Moves.{interval, one_depth}

-- a depth above 0 is an answer; and, for the parts above, what an answer says of the number
some_is : (a : ℕ) → 1 ≤ a → Some a ≡ some_depth a
some_is zero h = absurd (omega arith)
some_is (suc a) h = refl

pub is_some : (a : ℕ) {u : ℕ} → some_depth a ≡ Some u → a ≡ u
is_some zero e = cc
is_some (suc a) e = cc

pub is_none : (a : ℕ) → some_depth a ≡ None → a ≡ 0
is_none zero e = refl
is_none (suc a) e = cc

module _ (x : Design) (ls : List Layer) (N : ℤ) where
  abbrev end : ℕ
  end = 30 * x.h

  -- while it is searched: no depth below a reaches N, and a..b is tried next
  pub record Left (a b : ℕ) : Type 0 where
    pub low : 10 * x.h < a
    pub order : a ≤ end → a ≤ b
    pub high : b ≤ end
    pub answer : least (reached_at x ls N) a (suc end - a) ≡ least_reaching x ls N

  pub begin : 1 ≤ x.h → Left (10 * x.h + 1) end
  unfolding least_reaching
  begin h =
      let n-is : suc end - (10 * x.h + 1) ≡ 20 * x.h = omega arith in
      record { low = omega arith; order = λ k. k; high = omega arith; answer = rw n-is }

  -- the bound of a..b is below N: it is skipped whole
  module _ (e_low : 1 ≤ x.m.e) {a b : ℕ} (w : Left a b) (k : a ≤ end) (e : lt_z (bound x ls a b) N ≡ true) where
    fails : (i : ℕ) → a ≤ i → i < b + 1 → reached_at x ls N i ≡ false
    fails i h g =
        false-le N (internal_force x ls i)
        (≤ℤ-<ℤ-trans (interval x e_low w.low h (omega arith) ls) (lt-true _ _ e))

    pub skipped : {m : ℕ} → m ≡ min (b + 1 + 2 * (b - a) + 1) end → Left (b + 1) m
    skipped m-is =
        let ab : a ≤ b = w.order k in
        let h : b ≤ end = w.high in
        record {
          low = omega (arith, w.low);
          order = λ g. omega arith;
          high = omega arith;
          answer =
              sym (skip (reached_at x ls N) (b + 1 - a) a (b + 1) (suc end - a) (suc end - (b + 1)) (omega arith) (omega arith) fails) ∙ w.answer;
        }

  -- a quarter of it is tried
  pub narrowed : {a b : ℕ} → Left a b → a ≤ b → Left a (a + (b - a) / 4)
  narrowed {a} {b} w h = record { low = w.low; order = λ g. omega arith; high = omega (arith, w.high); answer = w.answer }

  -- it is not, and a..b is one depth: that is the answer
  pub found : {a b : ℕ} → Left a b → a ≤ end → a ≡ b → lt_z (bound x ls a b) N ≡ false → a ≡ least_reaching x ls N
  found {a} {b} w k s e =
      let f : lt_z (bound x ls a a) N ≡ false = rw (← s) at e in
      let here : reached_at x ls N a ≡ true = true-le N (internal_force x ls a) (rw (one_depth x ls a) at (lt-false (bound x ls a a) N f)) in
      sym (least_first (reached_at x ls N) a (suc end - a) (end - a) (omega arith) here) ∙ w.answer

  pub some_found : {a b : ℕ} → Left a b → a ≤ end → a ≡ b → lt_z (bound x ls a b) N ≡ false → Some a ≡ some_depth (least_reaching x ls N)
  some_found {a} w k s e = some_is a (omega (arith, w.low)) ∙ ap some_depth (found w k s e)

  -- nothing is left
  pub never : {a b : ℕ} → Left a b → end < a → 0 ≡ least_reaching x ls N
  never {a} w h = sym (least_none (reached_at x ls N) a (suc end - a) (omega arith)) ∙ w.answer

  pub none_found : {a b : ℕ} → Left a b → end < a → None ≡ some_depth (least_reaching x ls N)
  none_found w h = ap some_depth (never w h)

  -- ---- what the answer says of the depths beyond 10h, up to 30h

  pub reached-least : 1 ≤ least_reaching x ls N → IsLeast (reached_at x ls N) (10 * x.h + 1) (20 * x.h) (least_reaching x ls N)
  unfolding least_reaching
  reached-least some = least_is (reached_at x ls N) (20 * x.h) (10 * x.h + 1) (omega arith) some

  pub reached-in : 1 ≤ least_reaching x ls N → Beyond x (least_reaching x ls N)
  reached-in some = let w = reached-least some in record { low = omega (arith, w.from); high = omega (arith, w.to) }

  pub reached_never : least_reaching x ls N ≡ 0 → (u : ℕ) → Beyond x u → reached_at x ls N u ≡ false
  unfolding least_reaching
  reached_never none u d =
      least_fails (reached_at x ls N) (20 * x.h) (10 * x.h + 1) (omega arith) none u (omega (arith, d.low)) (omega (arith, d.high))

-- how the search begins, and what it finds, of a load that is read from its bits
pub ruleset search_facts = (begin, some_found, to_z-of_z)
