-- The bounds of the section hold of its layers as a slice.
use mathlib.Core.Path.{sym, ap, ◌∙◌}
use native.Mathlib.Omega.{arith}
use lib.ListN.{length}
use mir.Facts.{to_z-of_z}
use Rattle.arith.proofs.Bound.{fits64}
use Rattle.section.specs.Code.Accepted.{area_sum}
use Rattle.section.specs.Code.Usable.{Usable}
use Rattle.equilibrium.proofs.Sizes.{area-high}
use Rattle.equilibrium.proofs.load.Loaded.balance.Goals as goal

pub invariant_of-result : goal.invariant_of-result
invariant_of-result c =
    let a = c.args.self.now.face.now in
    let ls = c.layers.ensures.value in
    let all : Usable a.design (length c.layers.result.now) c.layers.result.now = rw (c.layers.ensures.all, ls) a.usable in
    record {
      usable = all;
      area = c.steel_area.ensures ∙ ap area_sum (sym ls);
      steel_high = omega (arith, c.steel_area.ensures, area-high a.usable);
      load = rw (to_z-of_z (fits64 c.args.self.now.load tt)) c.args.self.now.load;
    }
