-- 2,000 below dm 200, else an entry of the table: one test, computed over the whole of it.
use mathlib.Core.Path.{refl}
use native.Mathlib.Omega.{arith}
use Rattle.shear.proofs.Factor.{below, printed}
use Rattle.shear.proofs.size.size_factor.Goals as goal

pub returns-then-dm-lt200 : goal.returns-then-dm-lt200
returns-then-dm-lt200 c = below _ c.if-dm-lt200.true

pub entry-requires : goal.entry-requires
entry-requires c = (printed _ tt refl, omega arith)
