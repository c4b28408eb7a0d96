-- Each goal is its source expression.
use Prim.Native.Nat.{ℕ, ◌*◌, ◌≤◌}
use mathlib.Core.Path.{sym, ap, ◌∙◌}
use native.Mathlib.Nat.{mul-le-mul}
use native.Mathlib.Omega.{arith}
use Rattle.std.proofs.Common.{rules}
use lib.IntN.{pos, ◌-ℤ◌, ◌*ℤ◌}
use mir.Syntax.{w64}
use mir.Val.{SFits, of_z}
use mir.Facts.{to_z-of_z}
use Rattle.arith.specs.Floor.{floor_div}
use Rattle.arith.proofs.Machine.{M, local, nat, num, ◌⊟◌, ◌⊠◌, fits, value, result}
use Rattle.section.specs.declared.Layer.{Layer}
use Rattle.section.specs.declared.Design.{Design}
use Rattle.equilibrium.proofs.Sizes.{bounds_at, lift-high}
use Rattle.equilibrium.proofs.Whole.{layer-floor}
use Rattle.equilibrium.proofs.resistance.Strained.layer_moment.Goals as goal
use Rattle.equilibrium.proofs.resistance.Strained.layer_moment.Goals.{After-from-2, Start}

module _ (s : Start) where
  abbrev x : Design
  x = s.args.self.now.design.now

  abbrev u : ℕ
  u = s.args.self.now.u

  abbrev layer : Layer
  layer = s.args.l.now

  least-in : x.m.s * u ≤ 1200000000
  least-in = mul-le-mul s.args.self.now.bounded.materials.s-high s.args.self.now.u_high

  abbrev least : M
  least = nat (x.m.s * u) least-in tt

  abbrev below : M
  below = num (pos 200) ⊠ nat u s.args.self.now.u_high tt

module _ (c : After-from-2) where
  abbrev start : Start
  start = (goal.at.After-from-2 c).Start

  lift-in : c.lift.result ≤ 2400000000
  lift-in = rw c.lift.ensures (lift-high (bounds_at c.args.self.now.bounded c.args.self.now.u_high c.requires.1))

  abbrev stress : M
  stress = nat c.lift.result lift-in tt ⊟ least start

  fits_depth : SFits w64 c.from.result
  fits_depth = search rules

  abbrev depth : M
  depth =
      local (of_z w64 c.from.result) {B = 2000} (to_z-of_z fits_depth ∙ c.from.ensures)
      (record { within = omega (arith, c.requires.1.depth_high, c.args.self.now.bounded.h-high) })

  fits_area : SFits w64 c.from-2.result
  fits_area = search rules

  abbrev area : M
  area = local (of_z w64 c.from-2.result) {B = 20000} (to_z-of_z fits_area ∙ c.from-2.ensures) (record { within = c.requires.1.area-high })

  abbrev force : M
  force = area ⊠ stress

  abbrev arm : M
  arm = nat c.args.self.now.design.now.h c.args.self.now.bounded.h-high tt ⊟ num (pos 2) ⊠ depth

  abbrev above : M
  above = force ⊠ arm

pub overflow_mul-from : goal.overflow_mul-from
overflow_mul-from c = fits (force c) tt

pub overflow_mul-from-2 : goal.overflow_mul-from-2
overflow_mul-from-2 c = fits (above c) tt

pub returns : goal.returns
returns c =
    let a = (goal.at.returns c).After-from-2 in
    let s = start a in
    result c.floor_div.type_inv
    (c.floor_div.ensures ∙ (λ i. floor_div (value (above a) tt i) (value (below s) tt i))
    ∙ ap (λ (n : ℕ). floor_div
    (pos (layer s).area *ℤ (pos n -ℤ pos ((x s).m.s * u s)) *ℤ (pos (x s).h -ℤ pos 2 *ℤ pos (layer s).depth))
    (pos 200 *ℤ pos (u s))) a.lift.ensures ∙ sym (layer-floor (x s) (layer s) s.requires.0))
