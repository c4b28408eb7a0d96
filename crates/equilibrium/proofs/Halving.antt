-- The halving rule of document 02's ticket 12 over the depths from 1 to 10h: what it ends with, and how many trials it takes. Assumes nothing.
use Prim.Native.Nat.{ℕ, suc, ◌*◌, ◌^◌, ◌≤◌}
use mathlib.Core.Bool.{true}
use mathlib.Core.List.{List}
use mathlib.Core.Path.{◌≡◌, sym, ap, ◌∙◌}
use native.Mathlib.Omega.{arith}
use lib.IntN.{ℤ}
use Rattle.arith.specs.Halving.{Halving, halved, kept_up_to}
use Rattle.arith.proofs.Halving as rule
use Rattle.section.specs.declared.Layer.{Layer}
use Rattle.section.specs.declared.Design.{Design}
use Rattle.section.specs.Code.Usable.{Bounded}
use Rattle.equilibrium.specs.Refusals.{carries}
use Rattle.equilibrium.specs.Depth.{depth_under, trials_under}
use Rattle.equilibrium.proofs.Accuracy.{never_back}

module _ (x : Design) (ls : List Layer) (N : ℤ) where
  -- the trials follow from the depth and h alone: a trial is kept exactly where it is at most the depth
  pub trials_by : trials_under ls N x ≡ (halved (kept_up_to (depth_under ls N x)) (10 * x.h)).trials
  trials_by = ap (λ (c : Halving). c.trials) (rule.halved_by (carries x ls N) (never_back x ls N) (10 * x.h))

  module _ (b : Bounded x) where
    some : 1 ≤ 10 * x.h
    some = omega (arith, b.h-low)

    -- what remains is the depth of document 01
    pub rule_finds : carries x ls N 1 ≡ true
        → (let c = halved (carries x ls N) (10 * x.h) in (c.least ≡ depth_under ls N x) × (c.greatest ≡ depth_under ls N x))
    rule_finds one =
        let e = rule.rule_finds (carries x ls N) (10 * x.h) some (never_back x ls N) one in
        (e, sym (rule.one_remains (carries x ls N) (10 * x.h) some) ∙ e)

    -- the number of trials, by the powers of two that 10h lies between
    pub trials_between : (j : ℕ) → 2 ^ j ≤ 10 * x.h → 10 * x.h ≤ 2 ^ suc j → (j ≤ trials_under ls N x) × (trials_under ls N x ≤ suc j)
    trials_between j low high =
        (rule.trials_least (carries x ls N) (10 * x.h) some j low, rule.trials_most (carries x ls N) (10 * x.h) some (suc j) high)

    -- 10h is at most 20,000, which is below 2^15
    pub trials_high : trials_under ls N x ≤ 15
    trials_high = rule.trials_most (carries x ls N) (10 * x.h) some 15 (omega (arith, b.h-high))
