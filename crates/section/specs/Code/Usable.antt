-- What an accepted section gives the code that computes with it. Assumes nothing.
use Rattle.std.specs.Prelude.{ℕ, ◌≤◌, ◌<◌, true, false, List, ◌≡◌, pos, length, Result, Ok, Err}
use Rattle.refusals.specs.Chain.{OneOf}
use Rattle.refusals.specs.declared.Refusal.{Refusal}
use Rattle.arith.specs.Integer.{Within}
use Rattle.materials.specs.Answer as materials
use Rattle.section.specs.declared.Layer.{Layer}
use Rattle.section.specs.declared.Links.{Links}
use Rattle.section.specs.declared.Load.{Load}
use Rattle.section.specs.declared.Design.{Design}
use Rattle.section.specs.Section.{Counted, all, depth_ok, area_ok, absent}
use Rattle.section.specs.Refusals.{section_refusals}

-- the bounds of the numbers: b and h by their tests, the others by the promise of the materials
pub record Bounded (x : Design) : Type 0 where
  pub b-low : 50 ≤ x.b
  pub b-high : x.b ≤ 2000
  pub h-low : 50 ≤ x.h
  pub h-high : x.h ≤ 2000
  pub materials : materials.Bounds x.m

-- with `count` layers, which passed their tests
pub record Usable (x : Design) (count : ℕ) (ls : List Layer) : Type 0 where
  pub bounded : Bounded x
  pub count_low : 1 ≤ count
  pub count_high : count ≤ 16
  pub counted : length ls ≤ count
  pub depths : all (depth_ok x.h) ls ≡ true
  pub areas : all area_ok ls ≡ true

-- one layer that passed
pub record LayerOk (h : ℕ) (l : Layer) : Type 0 where
  pub depth_low : 1 ≤ l.depth
  pub depth_high : l.depth < h
  pub area-low : 1 ≤ l.area
  pub area-high : l.area ≤ 20000

-- the numbers of the design are those of the section, and the materials those of its grade
pub record Asked (c : Counted) (x : Design) : Type 0 where
  pub width_is : c.width ≡ pos x.b
  pub height_is : c.height ≡ pos x.h
  pub grade_is : materials.Asked c.grade x.m

-- The promise of the section tests, by cases: a usable section; or one of their refusals. All that a part above uses of them.
pub record SectionPromise (c : Counted) (x : Design) : Type 0 where
  pub asked : Asked c x
  pub usable : Usable x c.count c.layers

abbrev pub PromisedSection : Counted → Result Design Refusal → Type 0
PromisedSection c (Ok x) = SectionPromise c x
PromisedSection c (Err r) = OneOf section_refusals r

-- a load that passed the load tests
pub record LoadOk (load : Load) : Type 0 where
  pub n_in : Within load.n 500000000
  pub m_in : Within load.m 1000000000000
  pub v-in : Within load.v 500000000

-- links that are present and passed
pub record LinkRanges (k : Links) : Type 0 where
  pub area-high : k.area ≤ 5000
  pub spacing_low : 25 ≤ k.spacing
  pub spacing_high : k.spacing ≤ 1000

-- links that passed their tests, present or not
pub record LinksOk (k : Links) (load : Load) : Type 0 where
  pub ranges : absent k ≡ false → LinkRanges k
  pub no_axial : absent k ≡ false → load.n ≡ pos 0
