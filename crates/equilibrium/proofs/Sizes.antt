-- How large the numbers of a section become. Assumes nothing.
use Prim.Native.Nat.{ℕ, ◌+◌, ◌-◌, ◌*◌, ◌≤◌}
use mathlib.Core.Bool.{true}
use mathlib.Core.List.{List, [], ◌∷◌}
use mathlib.Core.Path.{◌≡◌}
use native.Mathlib.Nat.{mul-le-mul, mul-le-mul_left, le_trans, div-le_of_le-mul, min-le_right}
use native.Mathlib.Omega.{arith}
use lib.Dec.{lit≤}
use lib.IntN.{ℤ, pos}
use lib.ListN.{length}
use Rattle.arith.specs.Fraction.{floor}
use Rattle.arith.specs.Integer.{Within}
use Rattle.arith.proofs.Fraction.{product-most}
use Rattle.arith.proofs.Bound.{lit, mul_in, sub_in, add-in}
use Rattle.arith.proofs.Floor.{floor-in}
use Rattle.arith.proofs.Test.{both_true}
use Rattle.section.specs.declared.Layer.{Layer}
use Rattle.section.specs.declared.Design.{Design}
use Rattle.section.specs.Section.{all, depth_ok, area_ok}
use Rattle.beyond.specs.Code.Whole.{block_moment}
use Rattle.equilibrium.specs.Force.{at, layer_moment}
use Rattle.section.specs.Code.Usable.{Bounded, LayerOk, Usable}
use Rattle.section.specs.Code.Accepted.{area_sum}
use Rattle.equilibrium.specs.Code.Whole.{DepthOk, lift_at, stress_at, lift_sum, rest_at, excess, BlockBounds}
use Rattle.section.proofs.OneLayer.{steel-high, layer-ok}
use Rattle.equilibrium.proofs.Whole.{layer-floor}

-- a depth up to 10h is at most 20,000 tenths
pub depth_most : {x : Design} {u : ℕ} → Bounded x → DepthOk x u → u ≤ 20000
depth_most b d = omega (arith, b.h-high, d.high)

-- ---- the lift

pub record LiftBounds (x : Design) (u d : ℕ) : Type 0 where
  pub bounded : Bounded x
  pub u-high : u ≤ 20000
  pub d_high : d ≤ 2000

pub record LiftSizes (x : Design) (u d : ℕ) : Type 0 where
  pub climb : (100 * x.m.e + x.m.s) * u ≤ 130000 * 20000
  pub most : 2 * x.m.s * u ≤ 120000 * 20000
  pub start : 1000 * x.m.e * d ≤ 700000 * 2000

pub lift_sizes : {x : Design} {u d : ℕ} → LiftBounds x u d → LiftSizes x u d
lift_sizes {x} {u} {d} w =
    let m = w.bounded.materials in
    record {
      climb = mul-le-mul (let h : 100 * x.m.e + x.m.s ≤ 130000 = omega (arith, m.E-high, m.s-high) in h) w.u-high;
      most = mul-le-mul (mul-le-mul_left 2 m.s-high) w.u-high;
      start = mul-le-mul (mul-le-mul_left 1000 m.E-high) w.d_high;
    }

pub lift-high : {x : Design} {u d : ℕ} → LiftBounds x u d → lift_at x u d ≤ 2400000000
lift-high {x} {u} {d} w = le_trans (min-le_right ((100 * x.m.e + x.m.s) * u - 1000 * x.m.e * d) (2 * x.m.s * u)) (lift_sizes w).most

pub bounds_at : {x : Design} {u : ℕ} {l : Layer} → Bounded x → u ≤ 20000 → LayerOk x.h l → LiftBounds x u l.depth
bounds_at b h ok = record { bounded = b; u-high = h; d_high = omega (arith, ok.depth_high, b.h-high) }

module _ {x : Design} {u : ℕ} (b : Bounded x) (h : u ≤ 20000) where
  lift_sum_by : (ls : List Layer) → all (depth_ok x.h) ls ≡ true → all area_ok ls ≡ true → lift_sum x ls u ≤ 20000 * 2400000000 * length ls
  unfolding lift_sum
  lift_sum_by [] d a = omega arith
  lift_sum_by (l ∷ ls) d a =
      let depths = both_true (depth_ok x.h l) (all (depth_ok x.h) ls) d in
      let areas = both_true (area_ok l) (all area_ok ls) a in
      let ok = layer-ok x.h l depths.0 areas.0 in
      omega (arith, mul-le-mul ok.area-high (lift-high (bounds_at b h ok)), lift_sum_by ls depths.1 areas.1)

-- the lift of all layers
pub lift_sum_high : {x : Design} {n : ℕ} {ls : List Layer} {u : ℕ} → Usable x n ls → u ≤ 20000 → lift_sum x ls u ≤ 768000000000000
lift_sum_high {ls = ls} w h = omega (arith, lift_sum_by w.bounded h ls w.depths w.areas, w.counted, w.count_high)

-- the area of all layers
area_by : (ls : List Layer) → all area_ok ls ≡ true → area_sum ls ≤ 20000 * length ls
unfolding area_sum
area_by [] a = omega arith
area_by (l ∷ ls) a =
    let areas = both_true (area_ok l) (all area_ok ls) a in
    omega (arith, steel-high l areas.0, area_by ls areas.1)

pub area-high : {x : Design} {n : ℕ} {ls : List Layer} → Usable x n ls → area_sum ls ≤ 320000
area-high {ls = ls} w = omega (arith, area_by ls w.areas, w.counted, w.count_high)

-- the concrete, for each tenth of its depth
pub concrete-high : {x : Design} → Bounded x → x.m.f * x.m.l * x.b ≤ 768000000
concrete-high b = mul-le-mul (mul-le-mul b.materials.f-high b.materials.L-high) b.b-high

pub concrete-low : {x : Design} → Bounded x → 1 ≤ x.m.f * x.m.l * x.b
concrete-low b = le_trans (lit≤ {m = 1} {n = 1 * 56 * 50} tt) (mul-le-mul (mul-le-mul b.materials.f-low b.materials.L-low) b.b-low)

-- 80,000·N and what the steel carries in tension
pub steel-rest : {x : Design} {steel : ℕ} → Bounded x → steel ≤ 320000 → 800 * x.m.s * steel ≤ 15360000000000
steel-rest b h = mul-le-mul (mul-le-mul_left 800 b.materials.s-high) h

pub rest_in : {x : Design} {steel : ℕ} {N : ℤ} → Bounded x → steel ≤ 320000 → Within N 500000000 → Within (rest_at x steel N) 55360000000000
rest_in {x} {steel} b h n =
    let tension : Within (pos (800 * x.m.s * steel)) 15360000000000 = record { within = steel-rest b h } in
    add-in (mul_in (lit (pos 80000)) n) tension

-- 80,000·u times what the force exceeds N by
pub excess-in : {x : Design} {n : ℕ} {ls : List Layer} {N : ℤ} {u : ℕ} → Usable x n ls → Within N 500000000 → u ≤ 20000
    → Within (excess x ls N u) 2028800000000000000
unfolding excess
excess-in {x} {ls = ls} {u = u} w load h =
    let concrete : Within (pos (x.m.f * x.m.l * x.b * u)) 15360000000000 = record { within = mul-le-mul (concrete-high w.bounded) h } in
    let depth : Within (pos u) 20000 = record { within = h } in
    let lift : Within (pos (800 * lift_sum x ls u)) 614400000000000000 = record { within = mul-le-mul_left 800 (lift_sum_high w h) } in
    add-in (mul_in (sub_in concrete (rest_in w.bounded (area-high w) load)) depth) lift

-- ---- the moment of a layer, by the bounds of its factors

abbrev pub layer-bound : ℕ
layer-bound = 432000000000000000

module _ {x : Design} {u : ℕ} {l : Layer} (b : Bounded x) (ok : DepthOk x u) (lo : LayerOk x.h l) where
  pub stress-in : Within (stress_at x l u) 3600000000
  stress-in =
      let lift : Within (pos (lift_at x u l.depth)) 2400000000 = record { within = lift-high (bounds_at b (depth_most b ok) lo) } in
      let least : Within (pos (x.m.s * u)) 1200000000 = record { within = mul-le-mul b.materials.s-high (depth_most b ok) } in
      sub_in lift least

  pub layer-moment-in : Within (floor (layer_moment x l (at u))) layer-bound
  layer-moment-in =
      let area : Within (pos l.area) 20000 = record { within = lo.area-high } in
      let height : Within (pos x.h) 2000 = record { within = b.h-high } in
      let depth : Within (pos (2 * l.depth)) 4000 = record { within = omega (arith, lo.depth_high, b.h-high) } in
      rw (layer-floor x l ok.low) (floor-in (pos (200 * u)) (mul_in (mul_in area stress-in) (sub_in height depth)))

-- ---- the factors of the concrete moment: k and what it leaves of 800h are together 800h, so their product is at most (400h)²
pub record BlockSizes (f b h k : ℕ) : Type 0 where
  pub product : k * (800 * h - k) ≤ 800000 * 800000
  pub strength : f * b ≤ 6000 * 2000
  pub above : f * b * (k * (800 * h - k)) ≤ 6000 * 2000 * (800000 * 800000)
  pub quotient : block_moment f b h k ≤ 60000000000

pub block_sizes : {f b h k : ℕ} → BlockBounds f b h k → BlockSizes f b h k
block_sizes {f} {b} {h} {k} w =
    let half : 400 * h ≤ 800000 = omega (arith, w.h-high) in
    let product = le_trans (product-most k (800 * h - k) (400 * h) (omega (arith, w.k-high))) (mul-le-mul half half) in
    let strength = mul-le-mul w.f-high w.b-high in
    let above = mul-le-mul strength product in
    record { product = product; strength = strength; above = above; quotient = div-le_of_le-mul 128000000 (le_trans above (lit≤ tt)) }
