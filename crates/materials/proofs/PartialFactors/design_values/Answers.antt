-- Each number from its callee.
use Rattle.materials.proofs.Strength.{L-is}
use Rattle.materials.proofs.PartialFactors.design_values.Goals as goal

pub returns : goal.returns
returns c =
    let s = c.before in
    let d = s.before.before.before in
    simp (
      L-is _ _ d.block_of-block.ensures.depth,
      s.block_strength.ensures,
      s.concrete_strength.ensures,
      s.steel_strength.ensures,
      c.shear_factor.ensures,
    )
