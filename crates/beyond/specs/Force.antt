-- Force and moment of a section that is compressed over its full height: at a whole depth u beyond 10h, up to 30h tenths of a millimetre.
-- Document 02, ticket 11, after clause 6.1: the strain line turns about the point at (1 − D/E)·h from the compressed face. The ticket's x is
-- u/10, the depth in millimetres; the letter x below is the design's. Assumes nothing.
use Rattle.std.specs.Prelude.{ℕ, min, ◌-◌, ◌*◌, List, [], ◌∷◌, ℤ, pos, ◌+ℤ◌}
use Rattle.arith.specs.Fraction.{Fraction, Ratio, whole, ◌-ᶠ◌, ◌*ᶠ◌, ◌/ᶠ◌, ◌÷ᶠ◌, held, floor}
use Rattle.section.specs.declared.Layer.{Layer}
use Rattle.section.specs.declared.Design.{Design}

module _ (x : Design) where
  -- the letters of the documents
  abbrev b : ℕ
  b = x.b

  abbrev h : ℕ
  h = x.h

  abbrev f : ℕ
  f = x.m.f

  abbrev L : ℕ
  L = x.m.l

  abbrev E : ℕ
  E = x.m.e

  abbrev D : ℕ
  D = x.m.d

  abbrev s : ℕ
  s = x.m.s

  -- ticket 11's x = u/10
  abbrev axis : ℕ → Fraction
  axis u = whole u /ᶠ 10

  -- the block's depth in millimetres: L·x/80, at most h. With x = u/10 it is the lesser of L·u and 800h, over 800
  unfoldable pub block_depth : ℕ → Fraction
  block_depth u = whole (min (L * u) (800 * h)) /ᶠ 800

  -- concrete force: f/100 times b times the block's depth, in newtons (3.1.7)
  unfoldable pub concrete_force : ℕ → Fraction
  concrete_force u = whole (f * b) *ᶠ block_depth u /ᶠ 100

  -- E·x − (E − D)·h with x = u/10: E times what the neutral axis lies below the point that the strain line turns about; above 0 beyond 10h
  unfoldable pub below_point : ℕ → Ratio
  below_point u = record { p = E * u - 10 * (E - D) * h; q = 10 }

  -- stress in a layer: D·E·(x − d)/(E·x − (E − D)·h) (6.1), held between −s/100 and +s/100 (3.2.7); compression is positive
  unfoldable pub stress : Layer → ℕ → Fraction
  stress l u =
      held (whole 0 -ᶠ whole s /ᶠ 100) (whole s /ᶠ 100) (whole (D * E) *ᶠ (axis u -ᶠ whole l.depth) ÷ᶠ below_point u)

  -- a layer's force: area times stress
  unfoldable pub layer_force : Layer → ℕ → Fraction
  layer_force l u = whole l.area *ᶠ stress l u

  -- "each part's force is rounded down to a whole newton"
  unfoldable pub steel_force : List Layer → ℕ → ℤ
  steel_force [] u = pos 0
  steel_force (l ∷ ls) u = floor (layer_force l u) +ℤ steel_force ls u

  -- internal force at u: the concrete force and the layers', each so rounded
  unfoldable pub internal_force : List Layer → ℕ → ℤ
  internal_force ls u = floor (concrete_force u) +ℤ steel_force ls u

  -- concrete moment, "from the unrounded force": force times half of what the block leaves of h
  unfoldable pub concrete_moment : ℕ → Fraction
  concrete_moment u = concrete_force u *ᶠ (whole h -ᶠ block_depth u) /ᶠ 2

  -- a layer's moment, from its unrounded force: force times (h/2 − d)
  unfoldable pub layer_moment : Layer → ℕ → Fraction
  layer_moment l u = layer_force l u *ᶠ (whole h /ᶠ 2 -ᶠ whole l.depth)

  -- each layer's moment rounded down to whole N·mm
  unfoldable pub steel_resistance : List Layer → ℕ → ℤ
  steel_resistance [] u = pos 0
  steel_resistance (l ∷ ls) u = floor (layer_moment l u) +ℤ steel_resistance ls u

  -- the moment resistance MRd: the concrete moment rounded down plus the layers'
  unfoldable pub moment_resistance : List Layer → ℕ → ℤ
  moment_resistance ls u = floor (concrete_moment u) +ℤ steel_resistance ls u
