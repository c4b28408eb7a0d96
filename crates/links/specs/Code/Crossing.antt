-- Where the resistances of the links and of the strut cross: what the code finds on its way to the cotangent. Assumes nothing.
use Rattle.std.specs.Prelude.{ℕ, ◌≤◌, ◌<◌, ◌≡◌}
use Rattle.links.specs.Links.{Truss, link_resistance, strut_resistance}

-- up to m the links resist no more than the strut, and beyond m the strut no more than the links; 9 where that holds of every tenth from 10
-- to 25
pub record Crossing (x : Truss) (m : ℕ) : Type 0 where
  pub low : 9 ≤ m
  pub high : m ≤ 25
  pub below : (c : ℕ) → 10 ≤ c → c ≤ m → link_resistance x c ≤ strut_resistance x c
  pub above : (c : ℕ) → m < c → c ≤ 25 → strut_resistance x c ≤ link_resistance x c

-- c is the first tenth from 10 on at which the links resist as much as at m
pub record FirstWith (x : Truss) (m c : ℕ) : Type 0 where
  pub low : 10 ≤ c
  pub high : c ≤ m
  pub same : link_resistance x c ≡ link_resistance x m
  pub worse : (t : ℕ) → 10 ≤ t → t < c → link_resistance x t < link_resistance x m
