-- A text in a lent buffer, and how long the text of a list can be. Assumes nothing.
use Rattle.std.specs.Prelude.{ℕ, ◌+◌, ◌*◌, List, ◌≡◌, length}
use Rattle.record.specs.Bytes.{placed}

-- The buffer xs has become ys: the text stands in it from the place `at` on, up to the place `next`, and no other byte
-- has changed.
pub record Put (xs : List ℕ) (at : ℕ) (text ys : List ℕ) (next : ℕ) : Type 0 where
  pub end : next ≡ at + length text
  pub bytes : ys ≡ placed xs at text

-- Room for the list of n bytes, whatever they are: law `list-most`. A record that is refused where the list goes on has at least 4
-- bytes, its map, and its line at most 47. One that is read has at least 36, its map, b, h, fck and fyk (44 with the layer that it must
-- have), and its line at most 159. The 48 are for a line after which the list ends: one byte is enough for it, and it has at most 47.
abbrev pub room_for : ℕ → ℕ
room_for n = 12 * n + 48
