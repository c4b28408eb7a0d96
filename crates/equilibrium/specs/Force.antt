-- Internal force and moment of a section at a depth of the neutral axis: document 01, "Equilibrium". Assumes nothing.
use Rattle.std.specs.Prelude.{ℕ, ◌*◌, List, [], ◌∷◌, ℤ, pos, ◌+ℤ◌}
use Rattle.arith.specs.Fraction.{Fraction, Ratio, whole, ratio, ◌+ᶠ◌, ◌-ᶠ◌, ◌*ᶠ◌, ◌/ᶠ◌, ◌÷ᶠ◌, held, floor}
use Rattle.section.specs.declared.Layer.{Layer}
use Rattle.section.specs.declared.Design.{Design}

-- A whole depth, in tenths of a millimetre: at 1358 is 1358/1. The same formulas give force and moment at a depth that is a
-- fraction p/q.
unfoldable pub at : ℕ → Ratio
at u = record { p = u; q = 1 }

module _ (x : Design) where
  -- the letters of document 01
  abbrev b : ℕ
  b = x.b

  abbrev h : ℕ
  h = x.h

  abbrev f : ℕ
  f = x.m.f

  abbrev L : ℕ
  L = x.m.l

  abbrev E : ℕ
  E = x.m.e

  abbrev s : ℕ
  s = x.m.s

  -- concrete force: f·L·b·u/80,000 newtons (3.1.7)
  unfoldable pub concrete_force : Ratio → Fraction
  concrete_force u = whole (f * L * b) *ᶠ ratio u /ᶠ 80000

  -- stress in a layer: E·(u − 10d)/u (6.1), held between −s/100 and +s/100 (3.2.7); compression is positive
  unfoldable pub stress : Layer → Ratio → Fraction
  stress l u = held (whole 0 -ᶠ whole s /ᶠ 100) (whole s /ᶠ 100) (whole E *ᶠ (ratio u -ᶠ whole (10 * l.depth)) ÷ᶠ u)

  -- a layer's force: area times stress
  unfoldable pub layer_force : Layer → Ratio → Fraction
  layer_force l u = whole l.area *ᶠ stress l u

  unfoldable pub steel_force : List Layer → Ratio → Fraction
  steel_force [] u = whole 0
  steel_force (l ∷ ls) u = layer_force l u +ᶠ steel_force ls u

  -- internal force at u: the concrete force plus the sum over all layers, with no rounding
  unfoldable pub internal_force : List Layer → Ratio → Fraction
  internal_force ls u = concrete_force u +ᶠ steel_force ls u

  -- concrete moment: f·L·b·u·(800h − L·u)/128,000,000
  unfoldable pub concrete_moment : Ratio → Fraction
  concrete_moment u = whole (f * L * b) *ᶠ ratio u *ᶠ (whole (800 * h) -ᶠ whole L *ᶠ ratio u) /ᶠ 128000000

  -- a layer's moment: force times (h/2 − d)
  unfoldable pub layer_moment : Layer → Ratio → Fraction
  layer_moment l u = layer_force l u *ᶠ (whole h /ᶠ 2 -ᶠ whole l.depth)

  unfoldable pub steel_moment : List Layer → Ratio → Fraction
  steel_moment [] u = whole 0
  steel_moment (l ∷ ls) u = layer_moment l u +ᶠ steel_moment ls u

  -- 01's "unrounded moment": nothing rounded
  unfoldable pub unrounded_moment : List Layer → Ratio → Fraction
  unrounded_moment ls u = concrete_moment u +ᶠ steel_moment ls u

  -- each layer's moment rounded down by itself
  unfoldable pub steel_resistance : List Layer → ℕ → ℤ
  steel_resistance [] u = pos 0
  steel_resistance (l ∷ ls) u = floor (layer_moment l (at u)) +ℤ steel_resistance ls u

  -- the moment resistance MRd at a whole depth: the concrete moment rounded down plus the layers'
  unfoldable pub moment_resistance : List Layer → ℕ → ℤ
  moment_resistance ls u = floor (concrete_moment (at u)) +ℤ steel_resistance ls u
