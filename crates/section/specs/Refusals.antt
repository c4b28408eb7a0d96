-- When a call is turned down: document 01, and 02's tickets 3, 8 and 10. A call's sequence of tests is a list, in the documents' order;
-- the first that fails gives the refusal. Here stand the tests of a section, of a load and of links, of which the sequences are made. The
-- sequences of Find a depth and Moment at a depth are on the page `Refusals` of the equilibrium, those of Check and Try a layer on that of
-- the clauses, those of Read a record and Write a record on that of the records. Assumes nothing.
use Rattle.std.specs.Prelude.{ℕ, ◌&&◌, ◌||◌, List, [], ◌∷◌, ◌++◌, leb, pos, nat_abs, Option, None, Some, Result, Ok, Err}
use Rattle.std.specs.Result.{result_err}
use Rattle.arith.specs.Integer.{in_range}
use Rattle.refusals.specs.Chain.{test, first_failing}
use Rattle.refusals.specs.declared.Refusal.{Refusal}
use Rattle.refusals.specs.declared.Refusal.TheVariants.{Width, Height, LayerCount, LayerDepth, LayerArea}
use Rattle.refusals.specs.declared.Refusal.TheVariants.{AxialForce, BendingMoment, ShearForce, LinkArea, LinkSpacing, LinksUnderForce}
use Rattle.materials.specs.Answer as materials
use Rattle.materials.specs.declared.Materials.{Materials}
use Rattle.section.specs.declared.Layer.{Layer}
use Rattle.section.specs.declared.Links.{Links}
use Rattle.section.specs.declared.Load.{Load}
use Rattle.section.specs.declared.Design.{Design}
use Rattle.section.specs.Section.{Counted, all, depth_ok, area_ok, absent, link_area_ok, link_spacing_ok}
use Rattle.section.specs.Load.{force_ok, moment_ok}

-- ---- the section tests, part of every call that takes a section

-- of its layers
abbrev pub layer_tests : ℕ → ℕ → List Layer → List (Option Refusal)
layer_tests h count ls =
    -- 5 number of layers
    test LayerCount (leb 1 count && leb count 16)
    -- 6 a layer's depth
    ∷ test LayerDepth (all (depth_ok h) ls)
    -- 7 a layer's area
    ∷ test LayerArea (all area_ok ls)
    ∷ []

unfoldable pub section_tests : Counted → List (Option Refusal)
section_tests c =
    -- 1 b
    test Width (in_range (pos 50) (pos 2000) c.width)
    -- 2 h
    ∷ test Height (in_range (pos 50) (pos 2000) c.height)
    -- 3 fck not in the table, 4 fyk, 32 situation, 34 αcc: the materials' own tests
    ∷ result_err (materials.materials_of c.grade)
    ∷ layer_tests (nat_abs c.height) c.count c.layers

-- the refusals that the section tests have
abbrev pub section_refusals : List Refusal
section_refusals = Width ∷ Height ∷ (materials.grade_refusals ++ (LayerCount ∷ LayerDepth ∷ LayerArea ∷ []))

-- what the formulas use of a section with these materials
abbrev pub design_of : Counted → Materials → Design
design_of c m = record { b = nat_abs c.width; h = nat_abs c.height; m = m }

-- A section that passed, or the refusal. (The materials of one that passed are known: the last line is never met.)
abbrev pub accepted_as : Option Refusal → Counted → Result Materials Refusal → Result Design Refusal
accepted_as (Some r) c a = Err r
accepted_as None c (Ok m) = Ok (design_of c m)
accepted_as None c (Err r) = Err r

unfoldable pub accepted : Counted → Result Design Refusal
accepted c = accepted_as (first_failing (section_tests c)) c (materials.materials_of c.grade)

-- ---- the load tests

abbrev pub load_tests : Load → List (Option Refusal)
load_tests l =
    -- 8 N out of range
    test AxialForce (force_ok l.n)
    -- 9 M out of range
    ∷ test BendingMoment (moment_ok l.m)
    -- 10 V out of range
    ∷ test ShearForce (force_ok l.v)
    ∷ []

-- the refusals that the load tests have
abbrev pub load_refusals : List Refusal
load_refusals = AxialForce ∷ BendingMoment ∷ ShearForce ∷ []

-- ---- the tests of the links, directly after those of the load: 02's ticket 3

abbrev pub link_tests : Links → Load → List (Option Refusal)
link_tests k l =
    -- 27 the area of links that are present
    test LinkArea (absent k || link_area_ok k)
    -- 28 their spacing
    ∷ test LinkSpacing (absent k || link_spacing_ok k)
    -- 29 links present and N not 0
    ∷ test LinksUnderForce (absent k || in_range (pos 0) (pos 0) l.n)
    ∷ []

-- the refusals that they have
abbrev pub link_refusals : List Refusal
link_refusals = LinkArea ∷ LinkSpacing ∷ LinksUnderForce ∷ []

-- 8 9 10 and 27 28 29: what Check, Read a record and Write a record ask after the section tests (Read a record asks 31 between)
abbrev pub load_link_tests : Links → Load → List (Option Refusal)
load_link_tests k l = load_tests l ++ link_tests k l

abbrev pub load_link_refusals : List Refusal
load_link_refusals = load_refusals ++ link_refusals

-- ---- a call

-- What a call answers of a section: the refusal of its sequence, or what it finds of the accepted section. (A section whose tests are
-- passed is accepted: the last line is never met.)
module _ {A : Type 0} (found : Design → A) where
  abbrev pub answer : Option Refusal → Result Design Refusal → Result A Refusal
  answer (Some r) a = Err r
  answer None (Ok x) = Ok (found x)
  answer None (Err r) = Err r
