-- What is promised of the numbers but that of fyk: one test over every class, every αcc and both situations, with the strongest steel. It stands by
-- itself, so that a bound that is out of reach is refused here and all that rests on it in the files that cite it.
use Prim.Native.Nat.{ℕ}
use mathlib.Core.Bool.{Bool, ◌&&◌}
use mathlib.Core.List.{List, [], ◌∷◌}
use lib.Dec.{T, leb}
use Rattle.arith.specs.Every.{every}
use Rattle.arith.specs.Fraction.{whole, ratio, ◌-ᶠ◌, ◌*ᶠ◌, ◌/ᶠ◌, ◌÷ᶠ◌, floor, rounded_down}
use Rattle.arith.proofs.Computed.{all_between}
use Rattle.materials.specs.declared.Class.{Class}
use Rattle.materials.specs.declared.Materials.{Materials}
use Rattle.materials.specs.Table.{table}
use Rattle.materials.specs.Situation.{Situation, persistent, accidental, long_term}
use Rattle.materials.specs.Strength.{depth_factor, strength_factor, L, f, g, s, CRdc, crd}
use Rattle.materials.specs.Answer.{numbers}
use Rattle.materials.proofs.Table.{passes}

-- a test of both situations
abbrev pub in_both : (Situation → Bool) → Bool
in_both p = p persistent && p accidental

-- each as what is at most what, in the sequence of `Bounds`; that of fyk is its own test
abbrev pub limits : Materials → List (ℕ × ℕ)
limits m =
    (m.fck, 90)
    ∷ (m.t, 50)
    ∷ (520, m.e)
    ∷ (m.e, 700)
    ∷ (1, m.d)
    ∷ (m.d, 460)
    ∷ (m.d, m.e)
    ∷ (56, m.l)
    ∷ (m.l, 64)
    ∷ (1, m.f)
    ∷ (m.f, 6000)
    ∷ (m.g, 7500)
    ∷ (m.s, 60000)
    ∷ (m.crd, 15)
    ∷ []

abbrev pub ordered : ℕ × ℕ → Bool
ordered pair = leb pair.0 pair.1

-- with fyk 600, at fck and its class, αcc in hundredths and a situation
abbrev pub strongest : ℕ → Class → ℕ → Situation → Materials
strongest k class x j = numbers (long_term x) j k 600 class

abbrev pub limited : ℕ → Class → ℕ → Situation → Bool
limited k class x j = every ordered (limits (strongest k class x j))

abbrev pub always_limited : ℕ → Class → Bool
always_limited k class = all_between 80 100 (λ x. in_both (limited k class x))

pub all-limited : T (every (passes always_limited) table)
unfolding whole ratio ◌-ᶠ◌ ◌*ᶠ◌ ◌/ᶠ◌ ◌÷ᶠ◌ floor rounded_down depth_factor strength_factor L f g s CRdc crd
all-limited = tt
