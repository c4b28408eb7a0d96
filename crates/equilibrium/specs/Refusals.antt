-- When Find a depth and Moment at a depth are turned down: document 01, with 02's ticket 11 on 12 and 13. Their sequences of tests are lists,
-- in 01's order; the first that fails gives the refusal. The section tests stand on the page `Refusals` of the section. Assumes nothing.
use Rattle.std.specs.Prelude.{ℕ, ◌*◌, Bool, ◌&&◌, ◌||◌, List, [], ◌∷◌, ◌++◌, leb, ℤ, nat_abs, Option, Result, Ok, Err}
use Rattle.arith.specs.Fraction.{integer, at_most}
use Rattle.refusals.specs.Chain.{test}
use Rattle.refusals.specs.declared.Refusal.{Refusal}
use Rattle.refusals.specs.declared.Refusal.TheVariants.{AxialForce, ForceTooLow, ForceTooHigh, DepthRange}
use Rattle.section.specs.declared.Layer.{Layer}
use Rattle.section.specs.declared.Design.{Design}
use Rattle.section.specs.Section.{Counted}
use Rattle.section.specs.Load.{force_ok}
use Rattle.section.specs.Refusals.{section_tests, accepted}
use Rattle.beyond.specs.Depth.{least_reaching}
use Rattle.equilibrium.specs.Force.{at, internal_force}

-- ---- what N asks of a face

module _ (x : Design) (ls : List Layer) (N : ℤ) where
  -- the internal force at u is at most N
  unfoldable pub carries : ℕ → Bool
  carries u = at_most (internal_force x ls (at u)) (integer N)

  -- N is at most the internal force at 10h, nothing rounded
  unfoldable pub up_to_10h : Bool
  up_to_10h = at_most (integer N) (internal_force x ls (at (10 * x.h)))

  -- or there is a depth beyond 10h, up to 30h, whose force is at least N
  abbrev pub reaches : Bool
  reaches = up_to_10h || leb 1 (least_reaching x ls N)

  abbrev pub face_tests : List (Option Refusal)
  face_tests =
      -- 11 N below the internal force at depth 1
      test ForceTooLow (carries 1)
      -- 12 no u up to 30h reaches N
      ∷ test ForceTooHigh reaches
      ∷ []

-- the refusals that these tests have
abbrev pub face_refusals : List Refusal
face_refusals = ForceTooLow ∷ ForceTooHigh ∷ []

-- of an accepted section
abbrev pub face_tests_of : Result Design Refusal → List Layer → ℤ → List (Option Refusal)
face_tests_of (Ok x) ls N = face_tests x ls N
face_tests_of (Err r) ls N = []

-- ---- the calls

-- Find a depth: the section tests, 8 N out of range, 11 and 12. The compressed face is the top.
abbrev pub find_depth_tests : Counted → ℤ → List (Option Refusal)
find_depth_tests c N = section_tests c ++ (test AxialForce (force_ok N) ∷ face_tests_of (accepted c) c.layers N)

-- Moment at a depth: the section tests, then 13 where u is not in 1 to 30h
abbrev pub moment_tests : Counted → ℕ → List (Option Refusal)
moment_tests c u = section_tests c ++ (test DepthRange (leb 1 u && leb u (30 * nat_abs c.height)) ∷ [])
