-- At a whole depth u stress, force and moment are whole numbers over a natural: what the code computes. No sentence of document 01 stands
-- here. Assumes nothing.
use Rattle.std.specs.Prelude.{ℕ, ◌+◌, ◌-◌, ◌*◌, ◌≤◌, min, Bool, cond, List, [], ◌∷◌, leb}
use Rattle.std.specs.Prelude.{ℤ, pos, ◌+ℤ◌, ◌-ℤ◌, ◌*ℤ◌}
use Rattle.std.specs.Int.Signed.{le_z}
use Rattle.arith.specs.Fraction.{floor}
use Rattle.section.specs.declared.Layer.{Layer}
use Rattle.section.specs.declared.Design.{Design}
use Rattle.section.specs.Code.Accepted.{area_sum}
use Rattle.beyond.specs.Force as beyond
use Rattle.equilibrium.specs.Force.{at, layer_moment, steel_resistance}

-- a depth of the whole range, and one up to 10h
pub record DepthRange (x : Design) (u : ℕ) : Type 0 where
  pub low : 1 ≤ u
  pub high : u ≤ 30 * x.h

pub record DepthOk (x : Design) (u : ℕ) : Type 0 where
  pub low : 1 ≤ u
  pub high : u ≤ 10 * x.h

-- ---- the stress, counted from its least value: so nothing is below 0

-- climb − start, held between 0 and most
abbrev pub lifted : ℕ → ℕ → ℕ → ℕ
lifted climb most start = min (climb - start) most

-- 100·u times what the stress at the depth d lies above −s/100
abbrev pub lift_at : Design → ℕ → ℕ → ℕ
lift_at x u d = lifted ((100 * x.m.e + x.m.s) * u) (2 * x.m.s * u) (1000 * x.m.e * d)

-- 100·u times the stress of a layer
abbrev pub stress_at : Design → Layer → ℕ → ℤ
stress_at x l u = pos (lift_at x u l.depth) -ℤ pos (x.m.s * u)

-- the lift of all layers, each times its area
unfoldable pub lift_sum : Design → List Layer → ℕ → ℕ
lift_sum x [] u = 0
lift_sum x (l ∷ ls) u = l.area * lift_at x u l.depth + lift_sum x ls u

-- ---- the force, compared with N

-- 80,000·N and what so much steel carries in tension: what is left for the concrete and the lift
abbrev pub rest_at : Design → ℕ → ℤ → ℤ
rest_at x steel N = pos 80000 *ℤ N +ℤ pos (800 * x.m.s * steel)

-- is N at least the internal force at depth 1, where so much steel stands at −s/100 whatever its depth?
abbrev pub carries_at_one : Design → ℕ → ℤ → Bool
carries_at_one x steel N = le_z (pos (x.m.f * x.m.l * x.b)) (rest_at x steel N)

-- 80,000·u times what the internal force exceeds N by, of the steel's area and lift
abbrev pub excess_by : Design → ℕ → ℤ → ℕ → ℕ → ℤ
excess_by x steel N lift u = (pos (x.m.f * x.m.l * x.b * u) -ℤ rest_at x steel N) *ℤ pos u +ℤ pos (800 * lift)

unfoldable pub excess : Design → List Layer → ℤ → ℕ → ℤ
excess x ls N u = excess_by x (area_sum ls) N (lift_sum x ls u) u

-- ---- the moments of the layers at a depth up to 30h, by the page that it belongs to

abbrev pub layer_moment_at : Design → Layer → ℕ → ℤ
layer_moment_at x l u = cond (leb u (10 * x.h)) (floor (layer_moment x l (at u))) (floor (beyond.layer_moment x l u))

abbrev pub steel_at : Design → List Layer → ℕ → ℤ
steel_at x ls u = cond (leb u (10 * x.h)) (steel_resistance x ls u) (beyond.steel_resistance x ls u)

-- ---- what the code asks

pub record BlockBounds (f b h k : ℕ) : Type 0 where
  pub f-high : f ≤ 6000
  pub b-high : b ≤ 2000
  pub h-high : h ≤ 2000
  pub k-high : k ≤ 800 * h
