-- What no internal force at the depths from a to b exceeds. Assumes nothing.
use Rattle.std.specs.Prelude.{ℕ, ◌-◌, ◌*◌, Bool, cond, List, [], ◌∷◌, leb, ℤ, pos, ◌+ℤ◌}
use Rattle.arith.specs.Fraction.{floor}
use Rattle.section.specs.declared.Layer.{Layer}
use Rattle.section.specs.declared.Design.{Design}
use Rattle.beyond.specs.Force.{concrete_force, layer_force}

module _ (x : Design) where
  -- a layer at this depth is no nearer the compressed face than the point that the strain line turns about: d ≥ (1 − D/E)·h
  abbrev pub rises : ℕ → Bool
  rises d = leb ((x.m.e - x.m.d) * x.h) (x.m.e * d)

  -- where a layer's force on a..b is greatest
  abbrev pub most : ℕ → ℕ → ℕ → ℕ
  most d a b = cond (rises d) b a

  -- the layers that rise at b, the others at a
  unfoldable pub steel_bound : List Layer → ℕ → ℕ → ℤ
  steel_bound [] a b = pos 0
  steel_bound (l ∷ ls) a b = floor (layer_force x l (most l.depth a b)) +ℤ steel_bound ls a b

  unfoldable pub bound : List Layer → ℕ → ℕ → ℤ
  bound ls a b = floor (concrete_force x b) +ℤ steel_bound ls a b
