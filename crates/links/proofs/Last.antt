-- The walk of `crossing` from tenth to tenth: of those tried so far, up to which the test passes.
use Prim.Native.Nat.{ℕ, ◌+◌, ◌*◌, ◌≤◌, ◌<◌}
use mathlib.Core.Bool.{Bool, true, false, cond}
use mathlib.Core.Logic.{⊎_elim}
use mathlib.Core.Path.{◌≡◌, sym, subst}
use native.Mathlib.Nat.{mul-le-mul, mul-le-mul_left, le_refl, eq-or-lt_of_le}
use native.Mathlib.Omega.{arith}
use borrow.Author.Tests.{leb-true, leb-false}
use lib.Dec.{leb}

-- of the tenths below c, those up to `last` pass and the others do not
pub record Last (steel concrete c last : ℕ) : Type 0 where
  pub low : 9 ≤ last
  pub high : last < c
  pub below : (t : ℕ) → 10 ≤ t → t ≤ last → steel * (t * t + 100) ≤ concrete
  pub above : (t : ℕ) → last < t → t < c → concrete < steel * (t * t + 100)

-- where c passes, all before it do
passes : {steel concrete c : ℕ} → 10 ≤ c → steel * (c * c + 100) ≤ concrete → Last steel concrete (c + 1) c
passes {steel} {concrete} {c} h e = record {
  low = omega arith;
  high = omega arith;
  below = λ t l k. omega (arith, e, mul-le-mul_left steel (mul-le-mul k k), mul-le-mul_left steel (le_refl 100));
  above = λ t l k. absurd (omega arith);
}

fails : {steel concrete c last : ℕ} → concrete < steel * (c * c + 100) → Last steel concrete c last → Last steel concrete (c + 1) last
fails {steel} {concrete} {c} {last} e w = record {
  low = w.low;
  high = omega (arith, w.high);
  below = w.below;
  above = λ t l k. let up-to : t ≤ c = omega arith in
      ⊎_elim (λ here. subst (λ (t : ℕ). concrete < steel * (t * t + 100)) (sym here) e) (w.above t l) (eq-or-lt_of_le up-to);
}

pub next : {steel concrete c last : ℕ} (t : Bool) → 10 ≤ c → leb (steel * (c * c + 100)) concrete ≡ t → Last steel concrete c last
    → Last steel concrete (c + 1) (cond t c last)
next true h e w = passes h (leb-true _ _ e)
next false h e w = fails (leb-false _ _ e) w
