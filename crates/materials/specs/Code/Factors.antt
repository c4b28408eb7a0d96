-- The partial factors as the code holds them, in whole numbers. Assumes nothing.
use Rattle.std.specs.Prelude.{ℤ, pos, nat_abs, cond, Option, None, Some}
use Rattle.arith.specs.Integer.{in_range}
use Rattle.materials.specs.declared.PartialFactors.{PartialFactors}
use Rattle.materials.specs.Situation.{Situation, situation_of}

-- γc in tenths and γs in hundredths
abbrev pub scaled : PartialFactors → Situation
scaled j = record { γc = record { p = j.concrete; q = 10 }; γs = record { p = j.steel; q = 100 } }

-- the factors of a situation's number: none where test 32 fails
abbrev pub situation_in : ℤ → Option Situation
situation_in k = cond (in_range (pos 1) (pos 2) k) (Some (situation_of (nat_abs k))) None
