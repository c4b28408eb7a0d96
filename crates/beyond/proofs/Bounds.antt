-- The bound of an interval of depths, in naturals. Assumes nothing.
use Prim.Native.Nat.{ℕ, ◌+◌, ◌<◌}
use mathlib.Core.Bool.{Bool, true, false, cond}
use mathlib.Core.List.{List, [], ◌∷◌}
use mathlib.Core.Path.{◌≡◌, refl}
use native.Mathlib.Numerals.{add-one}
use native.Mathlib.Omega.{arith}
use lib.IntN.{pos, ◌+ℤ◌}
use lib.ListN.{length, drop, get_or}
use lib.Seq.{drop-cons}
use Rattle.arith.proofs.Test.{both_true}
use Rattle.section.specs.declared.Layer.{Layer}
use Rattle.section.specs.declared.Design.{Design}
use Rattle.section.specs.Section.{all, depth_ok, area_ok}
use Rattle.section.proofs.OneLayer.{layer-ok}
use Rattle.beyond.specs.Code.Range.{Beyond, Interval}
use Rattle.beyond.specs.Code.Bound.{rises, most, steel_bound, bound}
use Rattle.beyond.specs.Code.Whole.{concrete_newtons, layer_newtons, steel_newtons}
use Rattle.beyond.proofs.Whole.{concrete-whole, layer-whole}

-- what the layers from i on give: the layer at i, and those after it
pub next_newtons : (x : Design) (ls : List Layer) (i : ℕ) (d : Layer) (a b : ℕ) → i < length ls
    → steel_newtons x (drop i ls) a b ≡ layer_newtons x (get_or ls i d) (most x (get_or ls i d).depth a b) + steel_newtons x (drop (i + 1) ls) a b
unfolding steel_newtons
next_newtons x ls i d a b h = rw (drop-cons ls i d h, add-one)

module _ {x : Design} {count : ℕ} {ls : List Layer} {a b : ℕ} (v : Interval x count ls a b) where
  pub beyond_a : Beyond x a
  beyond_a = record { low = v.low; high = omega arith }

  pub beyond_b : Beyond x b
  beyond_b = record { low = omega arith; high = v.high }

  beyond_at : (t : Bool) → Beyond x (cond t b a)
  beyond_at true = beyond_b
  beyond_at false = beyond_a

  steel-whole : (zs : List Layer) → all (depth_ok x.h) zs ≡ true → all area_ok zs ≡ true → pos (steel_newtons x zs a b) ≡ steel_bound x zs a b
  unfolding steel_newtons steel_bound
  steel-whole [] d e = refl
  steel-whole (l ∷ zs) d e =
      let depths = both_true (depth_ok x.h l) (all (depth_ok x.h) zs) d in
      let areas = both_true (area_ok l) (all area_ok zs) e in
      let ok = layer-ok x.h l depths.0 areas.0 in
      λ i. layer-whole x l v.usable.bounded (beyond_at (rises x l.depth)) ok i +ℤ steel-whole zs depths.1 areas.1 i

  pub bound-whole : pos (concrete_newtons x b + steel_newtons x ls a b) ≡ bound x ls a b
  unfolding bound
  bound-whole = λ i. concrete-whole x b i +ℤ steel-whole ls v.usable.depths v.usable.areas i
