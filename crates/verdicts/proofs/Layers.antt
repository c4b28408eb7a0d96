-- Sums over layers, and over those in tension: one layer at a time, and how large they are. Assumes nothing.
use mathlib.Core.Path.{◌≡◌, refl, sym, ap}
use mathlib.Core.Bool.{Bool, true, false, cond}
use mathlib.Core.List.{List, [], ◌∷◌}
use Prim.Native.Nat.{ℕ, suc, ◌+◌, ◌*◌, ◌/◌, ◌≤◌}
use native.Mathlib.Nat.{zero-add, mul-add, zero-div, mul-le-mul_left, div-le_of_le-mul, le_trans}
use native.Mathlib.Omega.{arith}
use lib.ListN.{length}
use borrow.Author.Tests.{le-leb, lt-ltb}
use Rattle.arith.proofs.Test.{both_true}
use Rattle.section.specs.declared.Layer.{Layer}
use Rattle.section.specs.declared.Design.{Design}
use Rattle.section.specs.Section.{all, depth_ok, area_ok}
use Rattle.section.specs.Code.Usable.{Usable}
use Rattle.section.specs.Code.Accepted.{area_sum}
use Rattle.section.proofs.OneLayer.{layer-low, layer-high, steel-low, steel-high}
use Rattle.verdicts.specs.Tension.{in_tension, tension_layers, total, area_of, first_moment, mean_depth, As, dm}
use Rattle.verdicts.specs.Code.Ranges.{Counts}

-- ---- a sum is at most B times another, where that holds of each layer that passes a test
module _ (p : Layer → Bool) (f g : Layer → ℕ) (B : ℕ) (each : (l : Layer) → p l ≡ true → f l ≤ B * g l) where
  pub total-le : (ls : List Layer) → all p ls ≡ true → total f ls ≤ B * total g ls
  unfolding total
  total-le [] e = omega arith
  total-le (l ∷ ls) e =
      let t = both_true (p l) (all p ls) e in
      omega (arith, each l t.0, total-le ls t.1, mul-add B (g l) (total g ls))

count_is : (ls : List Layer) → total (λ l. 1) ls ≡ length ls
unfolding total
count_is [] = refl
count_is (l ∷ ls) = omega (arith, count_is ls)

-- ---- the tension layers
module _ (u : ℕ) where
  next_total : (f : Layer → ℕ) (t : Bool) (l : Layer) (ts : List Layer) → total f (cond t (l ∷ ts) ts) ≡ cond t (f l) 0 + total f ts
  unfolding total
  next_total f true l ts = refl
  next_total f false l ts = sym (zero-add (total f ts))

  -- the next layer's share in a sum over those in tension
  pub tension_step : (f : Layer → ℕ) (l : Layer) (ls : List Layer)
      → total f (tension_layers u (l ∷ ls)) ≡ cond (in_tension u l) (f l) 0 + total f (tension_layers u ls)
  unfolding tension_layers
  tension_step f l ls = next_total f (in_tension u l) l (tension_layers u ls)

  share : (t : Bool) (n : ℕ) → cond t n 0 ≤ n
  share true n = omega arith
  share false n = omega arith

  pub part_le : (f : Layer → ℕ) (ls : List Layer) → total f (tension_layers u ls) ≤ total f ls
  unfolding total tension_layers
  part_le f [] = omega arith
  part_le f (l ∷ ls) = omega (arith, tension_step f l ls, share (in_tension u l) (f l), part_le f ls)

  -- what all layers pass, those in tension pass
  next_all : (p : Layer → Bool) (t : Bool) (l : Layer) (ts : List Layer) → p l ≡ true → all p ts ≡ true → all p (cond t (l ∷ ts) ts) ≡ true
  next_all p true l ts here rest = rw (here, rest)
  next_all p false l ts here rest = rest

  pub all_tension : (p : Layer → Bool) (ls : List Layer) → all p ls ≡ true → all p (tension_layers u ls) ≡ true
  unfolding tension_layers
  all_tension p [] e = refl
  all_tension p (l ∷ ls) e =
      let t = both_true (p l) (all p ls) e in
      next_all p (in_tension u l) l (tension_layers u ls) t.0 (all_tension p ls t.1)

-- ---- the mean depth
pub mean_is : (ts : List Layer) → mean_depth ts ≡ first_moment ts / area_of ts
unfolding mean_depth total
mean_is [] = sym (zero-div 0)
mean_is (l ∷ ls) = refl

module _ (h : ℕ) where
  moment-high : (l : Layer) → depth_ok (suc h) l ≡ true → l.area * l.depth ≤ h * l.area
  moment-high l e = omega (arith, mul-le-mul_left {m = l.depth} {n = h} l.area (omega (arith, layer-high (suc h) l e)))

  pub first_moment-high : (ts : List Layer) → all (depth_ok (suc h)) ts ≡ true → first_moment ts ≤ h * area_of ts
  first_moment-high ts e = total-le (depth_ok (suc h)) (λ l. l.area * l.depth) (λ l. l.area) h moment-high ts e

  pub mean-high : (ts : List Layer) → all (depth_ok (suc h)) ts ≡ true → mean_depth ts ≤ h
  mean-high ts e = rw (mean_is ts) (div-le_of_le-mul (area_of ts) (omega (arith, first_moment-high ts e)))

-- ---- the sums of counted layers
module _ {n : ℕ} (ls : List Layer) (h : Counts n ls) where
  pub area_of-high : area_of ls ≤ 320000
  area_of-high =
      let each : (l : Layer) → area_ok l ≡ true → l.area ≤ 20000 * 1 = λ l e. omega (arith, steel-high l e) in
      omega (arith, h.count_high, h.counted, count_is ls, total-le area_ok (λ l. l.area) (λ l. 1) 20000 each ls h.areas)

  module _ (u : ℕ) where
    pub As-high : As u ls ≤ 320000
    As-high = le_trans (part_le u (λ l. l.area) ls) area_of-high

    pub moment-most : first_moment (tension_layers u ls) ≤ 639680000
    moment-most = omega (arith, As-high, first_moment-high 1999 (tension_layers u ls) (all_tension u (depth_ok 2000) ls h.depths))

    pub dm-high : dm u ls ≤ 1999
    dm-high = mean-high 1999 (tension_layers u ls) (all_tension u (depth_ok 2000) ls h.depths)

-- the area of all layers is the sum that the equilibrium takes
pub area_is : (ls : List Layer) → area_sum ls ≡ area_of ls
unfolding area_sum total
area_is [] = refl
area_is (l ∷ ls) = ap (λ (n : ℕ). l.area + n) (area_is ls)

-- As is 0 only where no layer is in tension: every area is at least 1
empty : (ts : List Layer) → all area_ok ts ≡ true → area_of ts ≡ 0 → ts ≡ []
unfolding total
empty [] e z = refl
empty (l ∷ ls) e z = absurd (omega (arith, steel-low l (both_true (area_ok l) (all area_ok ls) e).0))

pub no_tension : (u : ℕ) (ls : List Layer) → all area_ok ls ≡ true → As u ls ≡ 0 → tension_layers u ls ≡ []
no_tension u ls e z = empty (tension_layers u ls) (all_tension u area_ok ls e) z

-- a section that passed test 6 at its own height passes it at the greatest
deeper : {h k : ℕ} → h ≤ k → (l : Layer) → depth_ok h l ≡ true → depth_ok k l ≡ true
deeper {h} {k} m l e =
    rw (le-leb 1 l.depth (layer-low h l e)) (lt-ltb l.depth k (omega (arith, layer-high h l e)))

all_deeper : {h k : ℕ} → h ≤ k → (ls : List Layer) → all (depth_ok h) ls ≡ true → all (depth_ok k) ls ≡ true
all_deeper m [] e = refl
all_deeper {h} m (l ∷ ls) e =
    let t = both_true (depth_ok h l) (all (depth_ok h) ls) e in
    rw (deeper m l t.0) (all_deeper m ls t.1)

pub counts : {x : Design} {n : ℕ} (ls : List Layer) → Usable x n ls → Counts n ls
counts ls w = record { count_high = w.count_high; counted = w.counted; depths = all_deeper w.bounded.h-high ls w.depths; areas = w.areas }

-- ---- the loop over the layers: zs is what is left of ls
pub record Summed (u : ℕ) (ls zs : List Layer) (area moment : ℕ) : Type 0 where
  pub area_is : area + As u zs ≡ As u ls
  pub moment_is : moment + first_moment (tension_layers u zs) ≡ first_moment (tension_layers u ls)

pub sum_step : {u : ℕ} {ls zs ys : List Layer} {l : Layer} {area moment a m : ℕ} → zs ≡ l ∷ ys → a ≡ cond (in_tension u l) l.area 0
    → m ≡ cond (in_tension u l) (l.area * l.depth) 0 →
    Summed u ls zs area moment → Summed u ls ys (area + a) (moment + m)
sum_step {u} {ys = ys} {l} nx e f inv = record {
  area_is = omega (arith, rw nx at inv.area_is, tension_step u (λ l. l.area) l ys, e);
  moment_is = omega (arith, rw nx at inv.moment_is, tension_step u (λ l. l.area * l.depth) l ys, f);
}

pub sum_done : {u : ℕ} {ls zs : List Layer} {area moment : ℕ} → zs ≡ [] → Summed u ls zs area moment → Summed u ls [] area moment
sum_done nx inv = rw nx at inv
