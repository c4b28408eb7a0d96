-- Demand 3 of document 01: the one theorem, of any numbers that keep the promise and of either face. Assumes nothing.
use Prim.Native.Nat.{ℕ, ◌+◌, ◌*◌, ◌≤◌}
use mathlib.Core.Bool.{Bool, true, false}
use mathlib.Core.List.{List}
use mathlib.Core.Path.{◌≡◌}
use native.Mathlib.Nat.{mul-pos, le_of_mul-le-mul_right}
use native.Mathlib.Omega.{arith}
use lib.IntN.{ℤ}
use Rattle.arith.specs.Fraction.{Proper, Ratio, whole, integer, ratio, ◌≤ᶠ◌, ◌<ᶠ◌}
use Rattle.arith.specs.Greatest.{greatest}
use Rattle.arith.proofs.Fraction.{Positive, proper, integer_proper, ≤ᶠ-trans, <ᶠ-≤ᶠ-trans, ≤ᶠ-<ᶠ-trans}
use Rattle.arith.proofs.Fraction.{Tested, Tested.below, Tested.above, tested, passes, fails, holds-true}
use Rattle.arith.proofs.Greatest.{NeverBack, greatest-le, le-greatest, greatest-passes}
use Rattle.section.specs.declared.Layer.{Layer}
use Rattle.section.specs.declared.Design.{Design}
use Rattle.section.specs.Code.Usable.{Bounded}
use Rattle.equilibrium.specs.Force.{at, internal_force, moment_resistance}
use Rattle.equilibrium.specs.Refusals.{carries, up_to_10h}
use Rattle.equilibrium.specs.Accuracy.{Range, growth, allowance, Accurate}
use Rattle.section.proofs.Usable.{DepthsWithin}
use Rattle.equilibrium.proofs.Rising.{at_positive, at-whole, force_proper, force_mono, force_strict}
use Rattle.equilibrium.proofs.Nearness.{moment_proper, moment_near}

positive : {h : ℕ} {y : Ratio} → Range h y → Positive y
unfolding whole ratio
positive r = omega arith

-- a whole depth that is not above a depth of the range is in the range
in_range_lem : {h : ℕ} {y : Ratio} → Range h y → (v : ℕ) → whole v ≤ᶠ ratio y → v ≤ 10 * h
unfolding whole ratio
in_range_lem {y} r v le = le_of_mul-le-mul_right {k = y.q} (omega arith) r.q-low

module _ (x : Design) (ls : List Layer) (N : ℤ) where
  pub carried : (u : ℕ) → carries x ls N u ≡ true → internal_force x ls (at u) ≤ᶠ integer N
  unfolding carries
  carried u e = passes (tested _ _) e

  pub carry : (u : ℕ) → internal_force x ls (at u) ≤ᶠ integer N → carries x ls N u ≡ true
  unfolding carries
  carry u h = holds-true (tested _ _) h

  -- a depth that carries at most N has every smaller one do so
  pub never_back : NeverBack (carries x ls N)
  never_back j k low h e =
      let pj = at_positive j low in
      let pk = at_positive k (omega arith) in
      carry j (≤ᶠ-trans (force_proper x pk ls) (force_mono x pj pk ls (unfold at ratio in omega arith)) (carried k e))

-- the depth found
module _ (x : Design) (ls : List Layer) (N : ℤ) (ok : Bounded x) (one : carries x ls N 1 ≡ true) where
  abbrev u : ℕ
  u = greatest (carries x ls N) (10 * x.h)

  pub depth_low : 1 ≤ u
  depth_low = le-greatest (carries x ls N) (10 * x.h) 1 (omega (arith, ok.h-low)) one

  pub depth_high : u ≤ 10 * x.h
  depth_high = greatest-le (carries x ls N) (10 * x.h)

  here : internal_force x ls (at u) ≤ᶠ integer N
  here = carried x ls N u (greatest-passes (carries x ls N) (10 * x.h) 1 (omega (arith, ok.h-low)) (omega arith) one)

  below_depth : (y : Ratio) → Range x.h y → ratio y <ᶠ whole u → internal_force x ls y <ᶠ integer N
  below_depth y r lt =
      let m = ok.materials in
      let rises : 1 ≤ x.m.f * x.m.l * x.b = mul-pos (mul-pos m.f-low (omega (arith, m.L-low))) (omega (arith, ok.b-low)) in
      <ᶠ-≤ᶠ-trans (integer_proper N) (force_strict x (positive r) (at_positive u depth_low) ls rises (rw (at-whole u) lt)) here

  next : {t : Bool} → u + 1 ≤ 10 * x.h → Tested (internal_force x ls (at (u + 1))) (integer N) t → integer N <ᶠ internal_force x ls (at (u + 1))
  next h (below k) = absurd (omega (arith, le-greatest (carries x ls N) (10 * x.h) (u + 1) h (carry x ls N (u + 1) k)))
  next h (above k) = k

  above_depth : (y : Ratio) → Range x.h y → whole (u + 1) ≤ᶠ ratio y → integer N <ᶠ internal_force x ls y
  above_depth y r le =
      let py = positive r in
      <ᶠ-≤ᶠ-trans (force_proper x py ls) (next (in_range_lem r (u + 1) le) (tested _ _))
      (force_mono x (at_positive (u + 1) (omega arith)) py ls (rw (at-whole (u + 1)) le))

  allowance_proper : (y : Ratio) → Range x.h y → Proper (allowance x ls u y)
  unfolding growth allowance
  allowance_proper y r =
      let there = force_proper x (positive r) ls in
      let here = force_proper x (at_positive u depth_low) ls in
      search proper

  pub accuracy : DepthsWithin x.h ls → Accurate x ls N u (moment_resistance x ls u)
  unfolding growth allowance
  accuracy within = record {
    defined = λ y r. (force_proper x (positive r) ls, (moment_proper x (positive r) ls, allowance_proper y r));
    below = below_depth;
    here = here;
    above = above_depth;
    near = λ y r low high. moment_near x ls u within ok.materials.L-high depth_low (positive r) low r.high;
  }

-- where N is above the internal force at 10h, it is above that at every depth up to 10h: none of them reaches N
pub none_up_to : (x : Design) (ls : List Layer) (N : ℤ) → Bounded x → up_to_10h x ls N ≡ false → (y : Ratio) → Range x.h y
    → internal_force x ls y <ᶠ integer N
unfolding up_to_10h
none_up_to x ls N ok e y r =
    let py = positive r in
    let pt = at_positive (10 * x.h) (omega (arith, ok.h-low)) in
    ≤ᶠ-<ᶠ-trans (force_proper x py ls) (force_mono x py pt ls (rw (at-whole (10 * x.h)) r.high)) (fails (tested _ _) e)
