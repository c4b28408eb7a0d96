-- Each goal is its source expression.
use Prim.Native.Nat.{◌*◌, ◌≤◌}
use mathlib.Core.Path.{sym, ap, ◌∙◌}
use native.Mathlib.Omega.{arith}
use Rattle.std.proofs.Common.{rules}
use lib.IntN.{pos, ◌*ℤ◌, ◌-ℤ◌}
use mir.Syntax.{w64}
use mir.Val.{SFits, of_z}
use mir.Facts.{to_z-of_z}
use Rattle.arith.specs.Floor.{floor_div}
use Rattle.arith.proofs.Machine.{M, local, nat, num, ◌⊟◌, ◌⊠◌, fits, value, result}
use Rattle.section.specs.declared.Layer.{Layer}
use Rattle.section.specs.declared.Design.{Design}
use Rattle.beyond.specs.declared.force.Share.{Share}
use Rattle.beyond.proofs.Whole.{share-low, moment-whole}
use Rattle.beyond.proofs.Sizes.{share-above, share_beneath}
use Rattle.beyond.proofs.force.Strained.layer_moment.Goals as goal
use Rattle.beyond.proofs.force.Strained.layer_moment.Goals.{After-share-t, After-from}

module _ (c : After-share-t) where
  abbrev x : Design
  x = c.args.self.now.design.now

  abbrev layer : Layer
  layer = c.args.l.now

  abbrev share : Share
  share = c.share-t.result

  p-high : share.p ≤ 386400000000000
  p-high = rw c.share-t.ensures (share-above c.args.self.now.bounded c.args.self.now.beyond c.requires)

  q-high : share.q ≤ 42000000
  q-high = rw c.share-t.ensures (share_beneath {l = layer} c.args.self.now.bounded c.args.self.now.beyond c.requires)

  q-low : 1 ≤ share.q
  q-low = rw c.share-t.ensures (share-low x layer c.args.self.now.bounded c.args.self.now.beyond c.requires)

  abbrev below : M
  below = num (pos 2) ⊠ nat share.q q-high tt

module _ (c : After-from) where
  abbrev divided : After-share-t
  divided = (goal.at.After-from c).After-share-t

  fits_depth : SFits w64 c.from.result
  fits_depth = search rules

  -- the depth, as an i64
  abbrev depth : M
  depth =
      local (of_z w64 c.from.result) {B = 2000} (to_z-of_z fits_depth ∙ c.from.ensures)
      (record { within = omega (arith, c.requires.depth_high, c.args.self.now.bounded.h-high) })

  abbrev arm : M
  arm = nat c.args.self.now.design.now.h c.args.self.now.bounded.h-high tt ⊟ num (pos 2) ⊠ depth

  abbrev above : M
  above = nat (share divided).p (p-high divided) tt ⊠ arm

pub overflow_mul-t : goal.overflow_mul-t
overflow_mul-t c = fits (above (goal.at.overflow_mul-t c).After-from) tt

pub returns : goal.returns
returns c =
    let a = (goal.at.returns c).After-share-t in
    result c.floor_div.type_inv
    (c.floor_div.ensures
    ∙ (λ i. floor_div (value (above (goal.at.returns c).After-from) tt i) (value (below a) tt i))
    ∙ ap (λ (t : Share). floor_div (pos t.p *ℤ (pos (x a).h -ℤ pos (2 * (layer a).depth))) (pos (2 * t.q))) a.share-t.ensures
    ∙ sym (moment-whole (x a) (layer a) a.args.self.now.bounded a.args.self.now.beyond a.requires))
