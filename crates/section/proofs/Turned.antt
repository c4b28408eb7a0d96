-- The section turned over is as usable as it was. Assumes nothing.
use Prim.Native.Nat.{ℕ, suc, ◌+◌, ◌-◌, ◌≤◌}
use mathlib.Core.Bool.{true, ◌&&◌}
use mathlib.Core.List.{List, [], ◌∷◌, ◌++◌, map, append-nil}
use mathlib.Core.Path.{◌≡◌, refl, ap, ap₂, ◌∙◌}
use native.Mathlib.Omega.{arith}
use lib.ListN.{length, take, drop}
use lib.Seq.{take_all}
use Rattle.std.proofs.lemmas.List.{drop_all, take-map}
use borrow.Author.Tests.{le-leb, lt-ltb}
use Rattle.arith.proofs.Test.{both_true}
use Rattle.section.specs.declared.Layer.{Layer}
use Rattle.section.specs.declared.Design.{Design}
use Rattle.section.specs.Section.{all, depth_ok, area_ok}
use Rattle.section.specs.Code.Usable.{Usable}
use Rattle.section.specs.Code.Accepted.{area_sum}
use Rattle.section.specs.Turned.{turned_layer, turned}
use Rattle.section.proofs.OneLayer.{layer-low, layer-high}

-- ---- it is as usable

depth_turned : (h : ℕ) (l : Layer) → depth_ok h l ≡ true → depth_ok h (turned_layer h l) ≡ true
depth_turned h l e =
    let low = layer-low h l e in
    let high = layer-high h l e in
    rw (le-leb 1 (h - l.depth) (omega arith), lt-ltb (h - l.depth) h (omega arith))

depths_turned : (h : ℕ) (ls : List Layer) → all (depth_ok h) ls ≡ true → all (depth_ok h) (turned h ls) ≡ true
unfolding turned
depths_turned h [] e = refl
depths_turned h (l ∷ ls) e =
    let t = both_true (depth_ok h l) (all (depth_ok h) ls) e in
    ap₂ ◌&&◌ (depth_turned h l t.0) (depths_turned h ls t.1)

areas_turned : (h : ℕ) (ls : List Layer) → all area_ok (turned h ls) ≡ all area_ok ls
unfolding turned
areas_turned h [] = refl
areas_turned h (l ∷ ls) = ap (λ t. area_ok l && t) (areas_turned h ls)

length-turned : (h : ℕ) (ls : List Layer) → length (turned h ls) ≡ length ls
unfolding turned
length-turned h [] = refl
length-turned h (l ∷ ls) = ap suc (length-turned h ls)

pub usable_turned : {x : Design} {count : ℕ} (ls : List Layer) → Usable x count ls → Usable x count (turned x.h ls)
usable_turned {x} ls w = record {
  bounded = w.bounded;
  count_low = w.count_low;
  count_high = w.count_high;
  counted = rw (length-turned x.h ls) w.counted;
  depths = depths_turned x.h ls w.depths;
  areas = areas_turned x.h ls ∙ w.areas;
}

-- ---- its area is what it was

pub area-turned : (h : ℕ) (ls : List Layer) → area_sum (turned h ls) ≡ area_sum ls
unfolding area_sum turned
area-turned h [] = refl
area-turned h (l ∷ ls) = ap (λ (t : ℕ). l.area + t) (area-turned h ls)

-- ---- all places turned over, one after the other

turned_map : (h : ℕ) (ls : List Layer) → map (turned_layer h) ls ≡ turned h ls
unfolding turned
turned_map h [] = refl
turned_map h (l ∷ ls) = ap (λ t. turned_layer h l ∷ t) (turned_map h ls)

pub turned_places : (h n i : ℕ) {ms : List Layer} (ls : List Layer) → length ls ≤ i → ms ≡ map (turned_layer h) (take i ls) ++ drop i ls
    → take n ms ≡ turned h (take n ls)
turned_places h n i {ms} ls end e =
    let all : ms ≡ map (turned_layer h) ls = e ∙ rw (take_all i ls end, drop_all i ls end, append-nil (map (turned_layer h) ls)) refl in
    rw all (take-map (turned_layer h) n ls ∙ turned_map h (take n ls))
