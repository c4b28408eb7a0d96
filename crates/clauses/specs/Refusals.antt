-- When Check and Try a layer are turned down: document 01, with 02's tickets 1 and 11 on 12, its ticket 3 on the links and its ticket 9. A
-- call's sequence of tests is a list, in the documents' order; the first that fails gives the refusal. The section tests, the load tests and
-- those of the links stand on the page `Refusals` of the section. Assumes nothing.
use Rattle.std.specs.Prelude.{ℕ, ◌&&◌, List, [], ◌∷◌, ◌++◌, Option, Result, Ok, Err}
use Rattle.refusals.specs.Chain.{test}
use Rattle.refusals.specs.declared.Refusal.{Refusal}
use Rattle.refusals.specs.declared.Refusal.TheVariants.{ForceTooLow, ForceTooHigh, LayerPlace}
use Rattle.section.specs.declared.Layer.{Layer}
use Rattle.section.specs.declared.Links.{Links}
use Rattle.section.specs.declared.Load.{Load}
use Rattle.section.specs.declared.Design.{Design}
use Rattle.section.specs.Section.{Counted}
use Rattle.section.specs.Refusals.{section_tests, load_link_tests, accepted}
use Rattle.section.specs.Turned.{turned}
use Rattle.section.specs.Altered.{place_ok, altered}
use Rattle.equilibrium.specs.Refusals.{carries, reaches}
use Rattle.clauses.specs.Compressed.{of_compressed}

-- what N asks of both faces, whose layers are `top` and `bottom` as each face sees them
abbrev pub faces_tests : Design → List Layer → List Layer → Load → List (Option Refusal)
faces_tests x top bottom load =
    -- 11 N below the internal force at depth 1, for the face compressed; the other says the same (`one-turned`)
    test ForceTooLow (carries x (of_compressed load.m top bottom) load.n 1)
    -- 12 no u up to 30h reaches N, of either
    ∷ test ForceTooHigh (reaches x top load.n && reaches x bottom load.n)
    ∷ []

-- of an accepted section: the bottom sees it turned over
abbrev pub faces_tests_of : Result Design Refusal → List Layer → Load → List (Option Refusal)
faces_tests_of (Ok x) ls load = faces_tests x ls (turned x.h ls) load
faces_tests_of (Err r) ls load = []

-- Check: the section tests, the load tests and those of the links, then 11 and 12
abbrev pub check_tests : Counted → Links → Load → List (Option Refusal)
check_tests c k load = section_tests c ++ (load_link_tests k load ++ faces_tests_of (accepted c) c.layers load)

-- Try a layer: 33 a place beyond the number of layers; then Check's, of the section so altered
abbrev pub trial_tests : Counted → Links → Load → ℕ → Layer → List (Option Refusal)
trial_tests c k load place l = test LayerPlace (place_ok place c) ∷ check_tests (altered place l c) k load
