-- The ranges in which the code's products fit: what an accepted section, its materials and its load give. Assumes nothing.
use Rattle.std.specs.Prelude.{ℕ, ◌≤◌}
use Rattle.arith.specs.Integer.{Within}
use Rattle.shear.specs.Shear.{Sheared}

-- the numbers of the stress that the concrete carries
pub record StressBounds (b fck As dm : ℕ) : Type 0 where
  pub b-high : b ≤ 2000
  pub fck_high : fck ≤ 90
  pub As-high : As ≤ 320000
  pub dm-high : dm ≤ 1999

-- those of the shear resistance
pub record ShearBounds (x : Sheared) : Type 0 where
  pub stress : StressBounds x.b x.fck x.As x.dm
  pub h-low : 50 ≤ x.h
  pub h-high : x.h ≤ 2000
  pub g-high : x.g ≤ 7500
  pub crd-high : x.crd ≤ 15
  pub N-in : Within x.N 500000000
