-- A section that is compressed over its full height has no layer in tension (document 02, ticket 11): what Check then reports of the clauses
-- that ask for tension reinforcement. Assumes nothing.
use Rattle.std.specs.Prelude.{◌≡◌}
use Rattle.clauses.specs.declared.Report.{Report}
use Rattle.verdicts.specs.declared.Verdict.TheVariants.{NotReached}

-- As, dm, the shear resistance and the links' figures are 0, and the second, third, fourth and sixth verdicts are not reached
pub record Unreached (r : Report) : Type 0 where
  pub area : r.area ≡ 0
  pub dm : r.dm ≡ 0
  pub vrd : r.vrd ≡ 0
  pub cotangent : r.cotangent ≡ 0
  pub resistance : r.resistance ≡ 0
  pub depth : r.depth ≡ NotReached
  pub shear : r.shear ≡ NotReached
  pub least : r.least ≡ NotReached
  pub links : r.links ≡ NotReached
