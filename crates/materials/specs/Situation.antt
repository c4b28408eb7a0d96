-- The factors that a country and a design situation set: Table 2.1N and 3.1.6(1) of EN 1992-1-1; 02's tickets 8 for the accidental
-- situation and 10 for αcc. Assumes nothing.
use Rattle.std.specs.Prelude.{ℕ, cond, eqb}
use Rattle.arith.specs.Fraction.{Ratio}

-- γc and γs of Table 2.1N
pub record Situation : Type 0 where
  pub γc : Ratio
  pub γs : Ratio

-- Table 2.1N, persistent and transient: 1.5 and 1.15
abbrev pub persistent : Situation
persistent = record { γc = record { p = 15; q = 10 }; γs = record { p = 115; q = 100 } }

-- Table 2.1N, accidental: 1.2 and 1.0. By the note to 2.4.2.4(1) these are not valid for fire, which has part 1-2.
abbrev pub accidental : Situation
accidental = record { γc = record { p = 12; q = 10 }; γs = record { p = 100; q = 100 } }

-- ticket 8's numbers: 1 persistent, 2 accidental. (Of every other number the answer is 32.)
abbrev pub situation_of : ℕ → Situation
situation_of k = cond (eqb k 1) persistent accidental

-- αcc of 3.1.6(1), the long-term factor, of the number that ticket 10 gives in hundredths: by the note there between 0.8 and 1.0, and 1.0
-- is recommended
abbrev pub long_term : ℕ → Ratio
long_term hundredths = record { p = hundredths; q = 100 }
