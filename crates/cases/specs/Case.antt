-- What a row of the table of worked cases says. Assumes nothing.
use Rattle.std.specs.Prelude.{ℕ, Bool, true, false, ◌&&◌, List, [], ◌∷◌, eqb, ℤ, replicate, Result, Ok, Err}
use Rattle.std.specs.Int.Signed.{le_z}
use Rattle.refusals.specs.declared.Refusal.{Refusal}
use Rattle.refusals.specs.Number.{number_of, number_or_0, refusal_number}
use Rattle.refusals.specs.Chain.{first_failing}
use Rattle.arith.specs.Fraction.{integer, is_same}
use Rattle.materials.specs.declared.Grade.{Grade}
use Rattle.materials.specs.declared.Materials.{Materials}
use Rattle.materials.specs.Answer.{materials_of}
use Rattle.section.specs.declared.Layer.{Layer}
use Rattle.section.specs.declared.Links.{Links}
use Rattle.section.specs.declared.Section.{Section}
use Rattle.section.specs.declared.Load.{Load}
use Rattle.section.specs.declared.Design.{Design}
use Rattle.section.specs.Section.{layers_of, counted, links_of}
use Rattle.section.specs.Refusals as sections
use Rattle.beyond.specs.Force as beyond
use Rattle.equilibrium.specs.Force.{at, internal_force, steel_resistance}
use Rattle.section.specs.Turned.{turned}
use Rattle.equilibrium.specs.declared.Depth.{Depth}
use Rattle.equilibrium.specs.Depth as depth
use Rattle.equilibrium.specs.Moment as moment
use Rattle.shear.specs.SizeFactor.{K}
use Rattle.shear.specs.Shear.{r, q}
use Rattle.links.specs.declared.Truss.{Truss}
use Rattle.links.specs.Links.{link_resistance, strut_resistance}
use Rattle.verdicts.specs.Tension.{As, dm}
use Rattle.record.specs.declared.Reading.{Reading}
use Rattle.record.specs.Read.{read_of}
use Rattle.record.specs.Write.{bytes_written}
use Rattle.clauses.specs.declared.Listed.{Listed}
use Rattle.clauses.specs.Check.{listed, check_of}
use Rattle.clauses.specs.Trial.{trial_of}

-- a section with these links
abbrev pub with_links : Links → Section → Section
with_links k s = record { layers = s.layers; width = s.width; height = s.height; grade = s.grade; links = k; count = s.count }

pub data Case : Type 0 where
  -- a grade; then its materials
  material : Grade → Materials → Case
  -- a grade; then the refusal of its tests
  no_material : Grade → ℕ → Case
  -- a section; then the refusal of its tests, 0 for none
  tests : Section → ℕ → Case
  -- a section and a depth u; then the internal force there
  force : Section → ℕ → ℤ → Case
  -- the same for the section turned over
  turned_force : Section → ℕ → ℤ → Case
  -- a section and a depth u beyond 10h; then the internal force there
  force_beyond : Section → ℕ → ℤ → Case
  -- Moment at a depth: a section and u; then the refusal and the moment
  resists : Section → ℕ → ℕ → ℤ → Case
  -- a section turned over and a depth u; then what its layers alone resist
  turned_steel : Section → ℕ → ℤ → Case
  -- dm; then K
  size_factor : ℕ → ℕ → Case
  -- a section and a depth u; then K, r and q of the tension layers there
  shear_numbers : Section → ℕ → ℕ → ℕ → ℕ → Case
  -- a section with links and a load; then the refusal of the load's tests and the links', 0 for none
  link_tested : Section → Load → ℕ → Case
  -- a section and a load; then the bytes of their record, as it is written where there is room
  written : Section → Load → List ℕ → Case
  -- bytes; then the refusal, the length, the situation and αcc that are read
  read : List ℕ → ℕ → ℕ → ℤ → ℤ → Case
  -- bytes; then the layers that are read
  read_layers : List ℕ → List Layer → Case
  -- what 6.2.3 asks of a section and a cotangent in tenths; then the resistance of the links and that of the strut
  struts : Truss → ℕ → ℕ → ℕ → Case

abbrev sameℤ : ℤ → ℤ → Bool
sameℤ a b = le_z a b && le_z b a

abbrev same_materials : Materials → Materials → Bool
same_materials a b =
    eqb a.fck b.fck && eqb a.fyk b.fyk && eqb a.t b.t && eqb a.e b.e && eqb a.d b.d && eqb a.l b.l && eqb a.f b.f
    && eqb a.g b.g && eqb a.s b.s && eqb a.crd b.crd

abbrev is_material : Result Materials Refusal → Materials → Bool
is_material (Ok m) n = same_materials m n
is_material (Err r) n = false

abbrev is_refused : Result Materials Refusal → ℕ → Bool
is_refused (Ok m) k = false
is_refused (Err r) k = eqb (number_of r) k

-- no rounding: the fraction is the whole number
abbrev force_is : List Layer → Result Design Refusal → ℕ → ℤ → Bool
force_is ls (Ok x) u z = is_same (internal_force x ls (at u)) (integer z)
force_is ls (Err j) u z = false

abbrev force_beyond_is : List Layer → Result Design Refusal → ℕ → ℤ → Bool
force_beyond_is ls (Ok x) u z = sameℤ (beyond.internal_force x ls u) z
force_beyond_is ls (Err j) u z = false

abbrev turned_force_is : List Layer → Result Design Refusal → ℕ → ℤ → Bool
turned_force_is ls (Ok x) u z = force_is (turned x.h ls) (Ok x) u z
turned_force_is ls (Err j) u z = false

abbrev turned_gives : List Layer → Result Design Refusal → ℕ → ℤ → Bool
turned_gives ls (Ok x) u z = sameℤ (steel_resistance x (turned x.h ls) u) z
turned_gives ls (Err j) u z = false

abbrev reads_as : Reading → ℕ → ℕ → ℤ → ℤ → Bool
reads_as r k n z a = eqb r.refusal k && eqb r.length n && sameℤ r.section.grade.situation z && sameℤ r.section.grade.alphacc a

-- room for the longest record
abbrev lent : List ℕ
lent = replicate 212 0

-- depths and areas, one layer after the other
abbrev numbers_in : List Layer → List ℕ
numbers_in [] = []
numbers_in (l ∷ ls) = l.depth ∷ l.area ∷ numbers_in ls

abbrev same_numbers : List ℕ → List ℕ → Bool
same_numbers [] [] = true
same_numbers (x ∷ xs) (y ∷ ys) = eqb x y && same_numbers xs ys
same_numbers [] (y ∷ ys) = false
same_numbers (x ∷ xs) [] = false

abbrev shear_is : List Layer → Result Design Refusal → ℕ → ℕ → ℕ → ℕ → Bool
shear_is ls (Ok x) u k y z =
    eqb (K (dm u ls)) k && eqb (r x.b x.m.fck (As u ls) (dm u ls)) y && eqb (q x.m.fck (K (dm u ls))) z
shear_is ls (Err j) u k y z = false

-- (It stays shut until the seal is opened, so that the answer is computed once and not once for each number compared.)
unfoldable pub same_listed : Listed → Listed → Bool
same_listed a b =
    eqb a.refusal b.refusal && eqb a.u b.u && sameℤ a.mrd b.mrd && eqb a.other.u b.other.u && sameℤ a.other.mrd b.other.mrd
    && eqb a.vrd b.vrd && eqb a.dm b.dm && eqb a.area b.area && eqb a.cotangent b.cotangent && eqb a.resistance b.resistance
    && same_numbers a.verdicts b.verdicts

abbrev pub holds : Case → Bool
holds (material grade m) = is_material (materials_of grade) m
holds (no_material grade k) = is_refused (materials_of grade) k
holds (tests s k) = eqb (refusal_number (sections.accepted (counted s))) k
holds (force s u z) = force_is (layers_of s) (sections.accepted (counted s)) u z
holds (force_beyond s u z) = force_beyond_is (layers_of s) (sections.accepted (counted s)) u z
holds (turned_force s u z) = turned_force_is (layers_of s) (sections.accepted (counted s)) u z
holds (resists s u k m) = eqb (refusal_number (moment.moment_at s u)) k && sameℤ (moment.moment_found (moment.moment_at s u)) m
holds (turned_steel s u z) = turned_gives (layers_of s) (sections.accepted (counted s)) u z
holds (size_factor d k) = eqb (K d) k
holds (link_tested s l k) = eqb (number_or_0 (first_failing (sections.load_link_tests (links_of s) l))) k
holds (written s l bytes) = same_numbers (bytes_written (counted s) (links_of s) l lent) bytes
holds (read_layers xs ls) = same_numbers (numbers_in (layers_of (read_of xs).section)) (numbers_in ls)
holds (read xs k n z a) = reads_as (read_of xs) k n z a
holds (struts x c k z) = eqb (link_resistance x c) k && eqb (strut_resistance x c) z
holds (shear_numbers s u k y z) = shear_is (layers_of s) (sections.accepted (counted s)) u k y z

-- a row of Find a depth: a section and N; then the refusal, u and the trials
pub record DepthRow : Type 0 where
  pub section : Section
  pub n : ℤ
  pub refusal : ℕ
  pub u : ℕ
  pub trials : ℕ

abbrev pub is_found : Result Depth Refusal → ℕ → ℕ → ℕ → Bool
is_found d k u t = eqb (refusal_number d) k && (eqb (depth.depth_found d) u && eqb (depth.trials_found d) t)

abbrev pub depth_holds : DepthRow → Bool
depth_holds row = is_found (depth.find_depth row.section row.n) row.refusal row.u row.trials

-- a row of Check: a section and a load; then what is listed
pub record CheckRow : Type 0 where
  pub section : Section
  pub load : Load
  pub lists : Listed

abbrev pub check_holds : CheckRow → Bool
check_holds row = same_listed (listed (check_of row.section row.load)) row.lists

-- a row of Try a layer: a section, a load, a place and a layer; then what is listed
pub record LayerRow : Type 0 where
  pub section : Section
  pub load : Load
  pub place : ℕ
  pub layer : Layer
  pub lists : Listed

abbrev pub layer_holds : LayerRow → Bool
layer_holds row = same_listed (listed (trial_of row.section row.load row.place row.layer)) row.lists
