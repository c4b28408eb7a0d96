-- The comparison is that of the fractions.
use Rattle.links.proofs.Whole.{spacing_is}
use Rattle.links.proofs.Truss.spacing_ok.Goals as goal

pub returns : goal.returns
returns c = rw (← c.self.view_is) (spacing_is _)
