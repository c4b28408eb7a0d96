-- What the section tests say of one layer: the bounds of its depth and of its area. Assumes nothing.
use Prim.Native.Nat.{ℕ, ◌≤◌, ◌<◌}
use mathlib.Core.Bool.{true}
use mathlib.Core.Path.{◌≡◌}
use lib.Dec.{leb, ltb}
use borrow.Author.Tests.{leb-true, ltb-true}
use Rattle.arith.proofs.Test.{both_true}
use Rattle.section.specs.declared.Layer.{Layer}
use Rattle.section.specs.Section.{depth_ok, area_ok}
use Rattle.section.specs.Code.Usable.{LayerOk}

module _ (h : ℕ) (l : Layer) (e : depth_ok h l ≡ true) where
  pub layer-low : 1 ≤ l.depth
  layer-low = leb-true 1 l.depth (both_true (leb 1 l.depth) (ltb l.depth h) e).0

  pub layer-high : l.depth < h
  layer-high = ltb-true l.depth h (both_true (leb 1 l.depth) (ltb l.depth h) e).1

module _ (l : Layer) (e : area_ok l ≡ true) where
  pub steel-low : 1 ≤ l.area
  steel-low = leb-true 1 l.area (both_true (leb 1 l.area) (leb l.area 20000) e).0

  pub steel-high : l.area ≤ 20000
  steel-high = leb-true l.area 20000 (both_true (leb 1 l.area) (leb l.area 20000) e).1

pub layer-ok : (h : ℕ) (l : Layer) → depth_ok h l ≡ true → area_ok l ≡ true → LayerOk h l
layer-ok h l d a = record { depth_low = layer-low h l d; depth_high = layer-high h l d; area-low = steel-low l a; area-high = steel-high l a }
