-- "The answer is the cotangent whose lesser resistance is greatest, the smallest cotangent on a tie, and no tenth does better": document 02,
-- ticket 3, of Check. Assumes nothing.
use Rattle.std.specs.Prelude.{true, ◌≡◌, Result}
use Rattle.refusals.specs.declared.Refusal.{Refusal}
use Rattle.section.specs.declared.Links.{Links}
use Rattle.section.specs.declared.Design.{Design}
use Rattle.section.specs.Section.{Counted}
use Rattle.section.specs.Refusals.{accepted}
use Rattle.links.specs.Links.{lesser, BestCotangent}
use Rattle.clauses.specs.declared.Report.{Report}
use Rattle.clauses.specs.Linked.{truss_of, reaches_links}
use Rattle.clauses.specs.Check.{OfReport}

-- where there are links and tension layers: no tenth does better than the cotangent that is reported, every smaller one does worse, and the
-- resistance that is reported is the lesser one there
pub record BestAnswer (k : Links) (x : Design) (r : Report) : Type 0 where
  pub best : reaches_links k r.area ≡ true → BestCotangent (truss_of x k r.dm) r.cotangent
  pub least : reaches_links k r.area ≡ true → r.resistance ≡ lesser (truss_of x k r.dm) r.cotangent

abbrev pub BestLinks : Counted → Links → Result Report Refusal → Type 0
BestLinks c k r = OfReport (BestAnswer k) (accepted c) r
