-- What code beyond 10h may assume of a depth. Assumes nothing.
use Rattle.std.specs.Prelude.{ℕ, ◌*◌, ◌≤◌, ◌<◌, List}
use Rattle.section.specs.declared.Layer.{Layer}
use Rattle.section.specs.declared.Design.{Design}
use Rattle.section.specs.Code.Usable.{Usable}

-- a depth beyond 10h, up to 30h
pub record Beyond (x : Design) (u : ℕ) : Type 0 where
  pub low : 10 * x.h < u
  pub high : u ≤ 30 * x.h

-- the depths from a to b, all of them beyond 10h and up to 30h, of a section that passed its tests
pub record Interval (x : Design) (count : ℕ) (ls : List Layer) (a b : ℕ) : Type 0 where
  pub usable : Usable x count ls
  pub low : 10 * x.h < a
  pub order : a ≤ b
  pub high : b ≤ 30 * x.h
