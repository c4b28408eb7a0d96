-- The ranges in which the code's products fit: what an accepted section and its materials give. Assumes nothing.
use Rattle.std.specs.Prelude.{ℕ, ◌≤◌, true, List, ◌≡◌, length}
use Rattle.section.specs.declared.Layer.{Layer}
use Rattle.section.specs.Section.{all, depth_ok, area_ok}

-- n counted layers, which passed the section tests, the test of depths with the greatest height
pub record Counts (n : ℕ) (ls : List Layer) : Type 0 where
  pub count_high : n ≤ 16
  pub counted : length ls ≤ n
  pub depths : all (depth_ok 2000) ls ≡ true
  pub areas : all area_ok ls ≡ true

-- the numbers of the fourth verdict
pub record LeastBounds (T fyk b As dm : ℕ) : Type 0 where
  pub T-high : T ≤ 50
  pub fyk_high : fyk ≤ 600
  pub b-high : b ≤ 2000
  pub As-high : As ≤ 320000
  pub dm-high : dm ≤ 1999
