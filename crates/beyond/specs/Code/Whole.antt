-- Beyond 10h every part's force is a natural over a natural: what the code computes. Assumes nothing.
use Rattle.std.specs.Prelude.{ℕ, min, ◌+◌, ◌-◌, ◌*◌, ◌/◌, Bool, cond, List, [], ◌∷◌, leb}
use Rattle.section.specs.declared.Layer.{Layer}
use Rattle.section.specs.declared.Design.{Design}
use Rattle.beyond.specs.declared.force.Share.{Share}
use Rattle.beyond.specs.Code.Bound.{most}

-- the moment of the concrete, for a block of the depth k in 1/800 mm, rounded down; up to 10h too, where k is L·u
abbrev pub block_moment : ℕ → ℕ → ℕ → ℕ → ℕ
block_moment f b h k = f * b * (k * (800 * h - k)) / 128000000

module _ (x : Design) where
  -- the block's depth in 1/800 mm
  abbrev pub block : ℕ → ℕ
  block u = min (x.m.l * u) (800 * x.h)

  unfoldable pub concrete_newtons : ℕ → ℕ
  concrete_newtons u = x.m.f * x.b * block u / 80000

  -- E·u − 10·(E − D)·h
  abbrev pub under : ℕ → ℕ
  under u = x.m.e * u - 10 * (x.m.e - x.m.d) * x.h

  -- D·E·(u − 10d)
  abbrev pub rise : ℕ → ℕ → ℕ
  rise d u = x.m.d * x.m.e * (u - 10 * d)

  -- the stress of a layer at the depth d is held at s/100
  abbrev pub yields : ℕ → ℕ → Bool
  yields d u = leb (x.m.s * under u) (100 * rise d u)

  -- a layer's force, not rounded, is p/q: A·s/100 where its stress is held, else A·D·E·(u − 10d)/(E·u − 10·(E − D)·h)
  abbrev pub held_share : Layer → Share
  held_share l = record { p = l.area * x.m.s; q = 100 }

  abbrev pub free_share : Layer → ℕ → Share
  free_share l u = record { p = l.area * rise l.depth u; q = under u }

  unfoldable pub share_of : Layer → ℕ → Share
  share_of l u = cond (yields l.depth u) (held_share l) (free_share l u)

  -- rounded down
  unfoldable pub layer_newtons : Layer → ℕ → ℕ
  layer_newtons l u = (share_of l u).p / (share_of l u).q

  -- the bound of a..b, of the steel
  unfoldable pub steel_newtons : List Layer → ℕ → ℕ → ℕ
  steel_newtons [] a b = 0
  steel_newtons (l ∷ ls) a b = layer_newtons l (most x l.depth a b) + steel_newtons ls a b
