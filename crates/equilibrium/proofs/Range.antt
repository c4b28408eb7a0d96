-- The moment resistance at a depth of the whole range, up to 30h: its parts by the page that the depth belongs to, and how large it becomes.
-- Assumes nothing.
use Prim.Native.Nat.{ℕ, ◌*◌, ◌≤◌, ◌<◌}
use mathlib.Core.Bool.{Bool, true, false, cond}
use mathlib.Core.List.{List, [], ◌∷◌}
use mathlib.Core.Path.{◌≡◌, refl, sym}
use native.Mathlib.Nat.{mul-le-mul, min-eq_left}
use native.Mathlib.Omega.{arith}
use borrow.Author.Tests.{leb-true, leb-false}
use lib.Dec.{leb, lit≤}
use lib.IntN.{ℤ, pos, ◌+ℤ◌}
use lib.ListN.{length}
use Rattle.arith.specs.Fraction.{floor}
use Rattle.arith.specs.Integer.{Within}
use Rattle.arith.proofs.Bound.{add-in, up_to}
use Rattle.arith.proofs.Test.{both_true, by_cond}
use Rattle.section.specs.declared.Layer.{Layer}
use Rattle.section.specs.declared.Design.{Design}
use Rattle.section.specs.Section.{all, depth_ok, area_ok}
use Rattle.section.specs.Code.Usable.{Bounded, LayerOk, Usable}
use Rattle.section.proofs.OneLayer.{layer-ok}
use Rattle.beyond.specs.Force as beyond
use Rattle.beyond.specs.Code.Range.{Beyond}
use Rattle.beyond.specs.Code.Whole.{block, block_moment}
use Rattle.beyond.proofs.Whole.{concrete-moment-whole}
use Rattle.beyond.proofs.Whole as beyond-parts
use Rattle.beyond.proofs.Sizes as beyond-sizes
use Rattle.equilibrium.specs.Force.{at, concrete_moment, steel_resistance, moment_resistance}
use Rattle.equilibrium.specs.Moment.{resistance_at}
use Rattle.equilibrium.specs.Code.Whole.{DepthRange, DepthOk, layer_moment_at, steel_at, BlockBounds}
use Rattle.equilibrium.proofs.Whole.{concrete-floor}
use Rattle.equilibrium.proofs.Sizes.{layer-bound, layer-moment-in, block_sizes}

-- a depth is at most 60,000 tenths
pub range_most : {x : Design} {u : ℕ} → Bounded x → DepthRange x u → u ≤ 60000
range_most b d = omega (arith, b.h-high, d.high)

-- ---- the two kinds

module _ {x : Design} {u : ℕ} (d : DepthRange x u) where
  pub depth_within : u ≤ 10 * x.h → DepthOk x u
  depth_within h = record { low = d.low; high = h }

  pub depth_beyond : 10 * x.h < u → Beyond x u
  depth_beyond h = record { low = h; high = d.high }

-- ---- the concrete

pub block_bounds : {x : Design} (u : ℕ) → Bounded x → BlockBounds x.m.f x.b x.h (block x u)
block_bounds u b = record { f-high = b.materials.f-high; b-high = b.b-high; h-high = b.h-high; k-high = omega arith }

-- by the page that the depth belongs to
abbrev concrete_at : Design → ℕ → ℤ
concrete_at x u = cond (leb u (10 * x.h)) (floor (concrete_moment x (at u))) (floor (beyond.concrete_moment x u))

module _ {x : Design} {u : ℕ} (b : Bounded x) (d : DepthRange x u) where
  -- up to 10h the block ends within h
  short : u ≤ 10 * x.h → x.m.l * u ≤ 800 * x.h
  short h = omega (arith, mul-le-mul b.materials.L-high h)

  pub concrete-at : pos (block_moment x.m.f x.b x.h (block x u)) ≡ concrete_at x u
  concrete-at =
      by_cond (λ (z : ℤ). pos (block_moment x.m.f x.b x.h (block x u)) ≡ z) (leb u (10 * x.h))
      (λ t.
      let h = short (leb-true _ _ t) in
      rw (min-eq_left h) (sym (concrete-floor x u d.low h)))
      (λ f. sym (concrete-moment-whole x u))

  pub concrete-in : Within (concrete_at x u) 60000000000
  concrete-in = rw (← concrete-at) (record { within = (block_sizes (block_bounds u b)).quotient })

  -- ---- a layer

  pub layer-at-in : {l : Layer} → LayerOk x.h l → Within (layer_moment_at x l u) layer-bound
  layer-at-in ok =
      by_cond (λ (z : ℤ). Within z layer-bound) (leb u (10 * x.h))
      (λ t. layer-moment-in b (depth_within d (leb-true _ _ t)) ok)
      (λ f. up_to (beyond-sizes.layer-moment-in b (depth_beyond d (leb-false _ _ f)) ok) (lit≤ tt))

-- ---- the sum over the layers

-- a choice of two sums is the sum of two choices
either_sum : (t : Bool) {p q : ℤ} (a b c d : ℤ) → p ≡ a +ℤ b → q ≡ c +ℤ d → cond t p q ≡ cond t a c +ℤ cond t b d
either_sum true a b c d e f = e
either_sum false a b c d e f = f

module _ (x : Design) (u : ℕ) where
  pub steel_none : steel_at x [] u ≡ pos 0
  unfolding steel_resistance
  steel_none = by_cond (λ (z : ℤ). z ≡ pos 0) (leb u (10 * x.h)) (λ t. refl) (λ f. beyond-parts.steel_none x u)

  pub steel_next : (l : Layer) (ls : List Layer) → steel_at x (l ∷ ls) u ≡ layer_moment_at x l u +ℤ steel_at x ls u
  unfolding steel_resistance
  steel_next l ls = either_sum (leb u (10 * x.h)) _ _ _ _ refl (beyond-parts.steel_next x u l ls)

  -- and the concrete with them
  pub resistance_parts : (ls : List Layer) → resistance_at x ls u ≡ concrete_at x u +ℤ steel_at x ls u
  unfolding resistance_at moment_resistance
  resistance_parts ls = either_sum (leb u (10 * x.h)) _ _ _ _ refl (beyond-parts.resistance_is x u ls)

module _ {x : Design} {u : ℕ} (b : Bounded x) (d : DepthRange x u) where
  steel-in : (ls : List Layer) → all (depth_ok x.h) ls ≡ true → all area_ok ls ≡ true → Within (steel_at x ls u) (layer-bound * length ls)
  steel-in [] e f = rw (steel_none x u) (record { within = omega arith })
  steel-in (l ∷ ls) e f =
      let depths = both_true (depth_ok x.h l) (all (depth_ok x.h) ls) e in
      let areas = both_true (area_ok l) (all area_ok ls) f in
      rw (steel_next x u l ls)
      (up_to (add-in (layer-at-in b d (layer-ok x.h l depths.0 areas.0)) (steel-in ls depths.1 areas.1)) (omega arith))

-- so the moment resistance fits
pub resistance_in : {x : Design} {count : ℕ} {ls : List Layer} {u : ℕ} → Usable x count ls → DepthRange x u
    → Within (resistance_at x ls u) 7000000000000000000
resistance_in {x} {ls = ls} {u} w d =
    rw (resistance_parts x u ls)
    (up_to (add-in (concrete-in w.bounded d) (steel-in w.bounded d ls w.depths w.areas)) (omega (arith, w.counted, w.count_high)))

-- up to 10h it is that of document 01
pub resistance_within : (x : Design) (ls : List Layer) (u : ℕ) → leb u (10 * x.h) ≡ true → resistance_at x ls u ≡ moment_resistance x ls u
unfolding resistance_at
resistance_within x ls u e = rw e
