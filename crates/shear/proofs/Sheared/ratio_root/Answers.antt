-- The divisor is b·dm or 1, and the root is r.
use mathlib.Core.Path.{refl}
use Rattle.shear.proofs.Roots.{r-either}
use Rattle.shear.proofs.Sheared.ratio_root.Goals as goal

pub returns : goal.returns
returns c =
    let x = c.self.inside in
    rw (← c.self.view_is, c.find.ensures, c.either-y.ensures, c.either-a.ensures) (r-either x.b x.fck x.area x.dm _ refl)
