-- The accuracy statement, demand 3 of document 01; by 02's ticket 11 it "keeps to depths up to 10h". Assumes nothing.
use Rattle.std.specs.Prelude.{ℕ, ◌+◌, ◌*◌, ◌≤◌, ◌<◌, false, List, ◌≡◌, ℤ, length, Result, Ok, Err}
use Rattle.refusals.specs.Chain.{OneOf}
use Rattle.refusals.specs.declared.Refusal.{Refusal}
use Rattle.arith.specs.Fraction.{Fraction, Proper, Ratio, whole, integer, ratio, ◌+ᶠ◌, ◌-ᶠ◌, ◌*ᶠ◌, ◌/ᶠ◌, ◌≤ᶠ◌, ◌<ᶠ◌, DifferAtMost}
use Rattle.section.specs.declared.Layer.{Layer}
use Rattle.section.specs.declared.Section.{Section}
use Rattle.section.specs.declared.Design.{Design}
use Rattle.equilibrium.specs.declared.Depth.{Depth}
use Rattle.equilibrium.specs.declared.Depth.TheVariants.{At, Beyond}
use Rattle.section.specs.Section.{counted}
use Rattle.section.specs.Refusals.{accepted}
use Rattle.equilibrium.specs.Refusals.{up_to_10h, face_refusals}
use Rattle.equilibrium.specs.Force.{at, internal_force, unrounded_moment}
use Rattle.equilibrium.specs.Code.Whole.{DepthRange}
use Rattle.equilibrium.specs.Moment.{resistance_at, moment_at, moment_found}

-- 01's "range": every p/q tenths, q above 0, from 1 to 10h with both ends
pub record Range (h : ℕ) (y : Ratio) : Type 0 where
  pub q-low : 1 ≤ y.q
  pub low : whole 1 ≤ᶠ ratio y
  pub high : ratio y ≤ᶠ whole (10 * h)

module _ (x : Design) (ls : List Layer) (u : ℕ) where
  -- 01's "growth": the internal force at the depth compared less that at u
  unfoldable pub growth : Ratio → Fraction
  growth y = internal_force x ls y -ᶠ internal_force x ls (at u)

  -- the allowance: h/2 times the growth, plus 1 N·mm, plus 1 N·mm for each counted layer
  unfoldable pub allowance : Ratio → Fraction
  allowance y = whole x.h /ᶠ 2 *ᶠ growth y +ᶠ whole (1 + length ls)

-- of a section under N, with the depth u and the moment that is reported
pub record Accurate (x : Design) (ls : List Layer) (N : ℤ) (u : ℕ) (reported : ℤ) : Type 0 where
  -- the fractions compared have a denominator above 0
  pub defined : (y : Ratio) → Range x.h y → Proper (internal_force x ls y) × (Proper (unrounded_moment x ls y) × Proper (allowance x ls u y))
  -- the internal force is below N where the depth is less than u,
  pub below : (y : Ratio) → Range x.h y → ratio y <ᶠ whole u → internal_force x ls y <ᶠ integer N
  -- at most N at u,
  pub here : internal_force x ls (at u) ≤ᶠ integer N
  -- above N from u + 1 on;
  pub above : (y : Ratio) → Range x.h y → whole (u + 1) ≤ᶠ ratio y → integer N <ᶠ internal_force x ls y
  -- and from u to u + 1 the unrounded moment differs from the reported one by no more than the allowance
  pub near : (y : Ratio) → Range x.h y → whole u ≤ᶠ ratio y → ratio y ≤ᶠ whole (u + 1)
      → DifferAtMost (allowance x ls u y) (unrounded_moment x ls y) (integer reported)

-- The promise of the depth for a face: a depth from 1 to 30h; up to 10h it is accurate, with the moment resistance there; and beyond 10h it
-- lies only where N is above the internal force at 10h. All that a part above uses of it.
pub record DepthPromise (x : Design) (ls : List Layer) (N : ℤ) (u : ℕ) : Type 0 where
  pub depth : DepthRange x u
  pub accurate : u ≤ 10 * x.h → Accurate x ls N u (resistance_at x ls u)
  pub over : 10 * x.h < u → up_to_10h x ls N ≡ false

-- by cases of the answer: a depth of its kind; or 11 or 12
abbrev pub PromisedDepth : Design → List Layer → ℤ → Result Depth Refusal → Type 0
PromisedDepth x ls N (Ok (At u trials)) = (u ≤ 10 * x.h) × DepthPromise x ls N u
PromisedDepth x ls N (Ok (Beyond u)) = (10 * x.h < u) × DepthPromise x ls N u
PromisedDepth x ls N (Err r) = OneOf face_refusals r

-- Of Find a depth: a depth up to 10h that is answered is accurate, with the moment that Moment at a depth answers for the same section
-- and u; of one beyond 10h nothing is said; and only an accepted section has one.
abbrev pub AccurateFound : Section → ℤ → Result Design Refusal → Result Depth Refusal → Type 0
AccurateFound s N (Ok x) (Ok (At u trials)) = Accurate x (counted s).layers N u (moment_found (moment_at s u))
AccurateFound s N (Err r) (Ok (At u trials)) = ⊥
AccurateFound s N (Ok x) (Ok (Beyond u)) = Unit {0}
AccurateFound s N (Err r) (Ok (Beyond u)) = ⊥
AccurateFound s N a (Err r) = Unit {0}

abbrev pub AccurateDepth : Section → ℤ → Result Depth Refusal → Type 0
AccurateDepth s N r = AccurateFound s N (accepted (counted s)) r
