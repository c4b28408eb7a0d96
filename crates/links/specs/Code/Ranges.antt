-- The ranges in which the code's products fit: what an accepted section, its materials and its links give. Assumes nothing.
use Rattle.std.specs.Prelude.{◌≤◌}
use Rattle.links.specs.Links.{Truss}

pub record TrussBounds (x : Truss) : Type 0 where
  pub b-high : x.b ≤ 2000
  pub fck_high : x.fck ≤ 90
  pub fyk_high : x.fyk ≤ 600
  pub g-high : x.g ≤ 7500
  pub s-high : x.s ≤ 60000
  pub dm-high : x.dm ≤ 1999
  pub area-high : x.area ≤ 5000
  pub spacing_low : 1 ≤ x.spacing
  pub spacing_high : x.spacing ≤ 1000
