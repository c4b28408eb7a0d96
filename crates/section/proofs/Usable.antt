-- The promise of the section tests, and what a section, a load and links that pass are: here the promise of the materials comes in.
-- Assumes nothing.
use Prim.Native.Nat.{ℕ, zero, suc, ◌≤◌}
use mathlib.Core.Bool.{Bool, true, false, ◌&&◌, ◌||◌}
use mathlib.Core.List.{List, [], ◌∷◌, ◌++◌}
use mathlib.Core.Path.{◌≡◌, refl, sym, ap, ◌∙◌}
use native.Mathlib.Omega.{arith}
use lib.Dec.{leb}
use lib.IntN.{ℤ, pos, nat_abs}
use lib.ListN.{length, take, drop}
use borrow.Author.Tests.{leb-true}
use Rattle.std.specs.Prelude.{Option, None, Some, Result, Ok, Err}
use Rattle.std.specs.Result.{result_err}
use Rattle.std.proofs.lemmas.Option.{none-some}
use Rattle.arith.specs.Integer.{in_range}
use Rattle.refusals.specs.declared.Refusal.{Refusal}
use Rattle.refusals.specs.declared.Refusal.TheVariants.{Width, Height, LayerCount, LayerDepth, LayerArea}
use Rattle.refusals.specs.declared.Refusal.TheVariants.{AxialForce, BendingMoment, ShearForce, LinkArea, LinkSpacing, LinksUnderForce}
use Rattle.refusals.specs.Chain.{first_failing}
use Rattle.refusals.proofs.Chain.{first_of, both_none, test_passed, among, Among, no_test, first_among, test_among}
use Rattle.arith.proofs.Range.{natural, symmetric}
use Rattle.arith.proofs.Test.{both_true, clash}
use Rattle.materials.specs.Answer as materials
use Rattle.materials.proofs.Promise.{promise}
use Rattle.materials.specs.declared.Materials.{Materials}
use Rattle.section.specs.declared.Layer.{Layer}
use Rattle.section.specs.declared.Section.{Section}
use Rattle.section.specs.declared.Links.{Links}
use Rattle.section.specs.declared.Load.{Load}
use Rattle.section.specs.declared.Design.{Design}
use Rattle.section.specs.Section.{layers_of, Counted, counted, all, depth_ok, area_ok, absent, link_area_ok, link_spacing_ok}
use Rattle.section.specs.Load.{force_ok, moment_ok}
use Rattle.section.specs.Refusals.{layer_tests, section_tests, section_refusals, design_of, accepted_as}
use Rattle.section.specs.Refusals.{accepted, load_tests, link_tests, load_link_tests, load_link_refusals, answer}
use Rattle.section.specs.Code.Accepted.{AcceptedOf, layers_in, design_in}
use Rattle.section.specs.declared.Accepted.{Accepted}
use Rattle.section.specs.Code.Usable.{Bounded, Usable, LayerOk, SectionPromise, PromisedSection, LoadOk, LinksOk}
use Rattle.section.proofs.OneLayer.{layer-high, layer-ok}
use Rattle.section.proofs.Walk.{all-at}

-- ---- the section tests, none of which fails

pub record NoneFails (c : Counted) : Type 0 where
  pub width : in_range (pos 50) (pos 2000) c.width ≡ true
  pub height : in_range (pos 50) (pos 2000) c.height ≡ true
  pub grade : result_err (materials.materials_of c.grade) ≡ None
  pub layers : first_failing (layer_tests (nat_abs c.height) c.count c.layers) ≡ None

none_fails : (c : Counted) → first_failing (section_tests c) ≡ None → NoneFails c
unfolding section_tests
none_fails c e =
    let w = test_passed Width (in_range (pos 50) (pos 2000) c.width) _ e in
    let h = test_passed Height (in_range (pos 50) (pos 2000) c.height) _ w.1 in
    let g = both_none (result_err (materials.materials_of c.grade)) _ h.1 in
    record { width = w.0; height = h.0; grade = g.0; layers = g.1 }

-- the refusals that they have
pub section_among : (c : Counted) → Among section_refusals (first_failing (section_tests c))
unfolding section_tests
section_among c =
    test_among Width (in_range (pos 50) (pos 2000) c.width) (record { member = tt }) (
    test_among Height (in_range (pos 50) (pos 2000) c.height) (record { member = tt }) (
    first_among (result_err (materials.materials_of c.grade)) (grade_refused (materials.materials_of c.grade) (promise c.grade)) (
    test_among LayerCount (leb 1 c.count && leb c.count 16) (record { member = tt }) (
    test_among LayerDepth (all (depth_ok (nat_abs c.height)) c.layers) (record { member = tt }) (
    test_among LayerArea (all area_ok c.layers) (record { member = tt }) no_test)))))
  where
    grade_refused : (a : Result Materials Refusal) → materials.Promised c.grade a → Among section_refusals (result_err a)
    grade_refused (Ok m) p = no_test
    grade_refused (Err r) p = record { some = among section_refusals materials.grade_refusals tt p }

-- ---- their promise

layers_usable : (c : Counted) {m : Materials} → Bounded (design_of c m) → length c.layers ≤ c.count
    → first_failing (layer_tests (nat_abs c.height) c.count c.layers) ≡ None
    → Usable (design_of c m) c.count c.layers
layers_usable c ok most e =
    let n = test_passed LayerCount (leb 1 c.count && leb c.count 16) _ e in
    let d = test_passed LayerDepth (all (depth_ok (nat_abs c.height)) c.layers) _ n.1 in
    let a = test_passed LayerArea (all area_ok c.layers) None d.1 in
    let range = both_true (leb 1 c.count) (leb c.count 16) n.0 in
    record { bounded = ok; count_low = leb-true 1 _ range.0; count_high = leb-true _ 16 range.1; counted = most; depths = d.0; areas = a.0 }

-- of materials that are known, where no test fails
usable_with : (c : Counted) {m : Materials} → length c.layers ≤ c.count → NoneFails c → materials.Promise c.grade m → SectionPromise c (design_of c m)
usable_with c {m} most n p =
    let b = natural 50 2000 c.width n.width in
    let h = natural 50 2000 c.height n.height in
    let ok : Bounded (design_of c m) = record { b-low = b.low; b-high = b.high; h-low = h.low; h-high = h.high; materials = p.bounds } in
    record { asked = record { width_is = b.is; height_is = h.is; grade_is = p.asked }; usable = layers_usable c ok most n.layers }

-- by cases of the first that fails and of the materials
promised : (c : Counted) (k : Option Refusal) (a : Result Materials Refusal) → length c.layers ≤ c.count → first_failing (section_tests c) ≡ k
    → materials.materials_of c.grade ≡ a
    → materials.Promised c.grade a
    → PromisedSection c (accepted_as k c a)
promised c (Some r) a most e m p = let s = section_among c in (rw e at s).some
promised c None (Err r) most e m p = among section_refusals materials.grade_refusals tt p
promised c None (Ok g) most e m p = usable_with c most (none_fails c e) p

take-most : (n : ℕ) (ls : List Layer) → length (take n ls) ≤ n
take-most zero ls = omega arith
take-most (suc n) [] = omega arith
take-most (suc n) (l ∷ ls) = omega (arith, take-most n ls)

promise_of : (c : Counted) → length c.layers ≤ c.count → PromisedSection c (accepted c)
unfolding accepted
promise_of c most = promised c (first_failing (section_tests c)) (materials.materials_of c.grade) most refl refl (promise c.grade)

pub section_promise : (s : Section) → PromisedSection (counted s) (accepted (counted s))
section_promise s = promise_of (counted s) (take-most s.count s.layers)

pub usable_by : (s : Section) {x : Design} → accepted (counted s) ≡ Ok x → Usable x s.count (layers_of s)
usable_by s e = (rw e at (section_promise s)).usable

-- ---- their refusal is that of the first that fails

refused_as : (c : Counted) (k : Option Refusal) (a : Result Materials Refusal) → first_failing (section_tests c) ≡ k → materials.materials_of c.grade ≡ a
    → result_err (accepted_as k c a) ≡ k
refused_as c (Some r) a e m = refl
refused_as c None (Ok g) e m = refl
refused_as c None (Err r) e m = rw m at (none_fails c e).grade

pub section_refusal : (c : Counted) → result_err (accepted c) ≡ first_failing (section_tests c)
unfolding accepted
section_refusal c = refused_as c (first_failing (section_tests c)) (materials.materials_of c.grade) refl refl

-- ---- the answers of `accept`

-- what it answers of a section that is refused, or accepted: the definition's answer
pub refused_is : (c : Counted) {r : Refusal} → first_failing (section_tests c) ≡ Some r → Err r ≡ accepted c
unfolding accepted
refused_is c e = rw e

pub ready_is : (c : Counted) {m : Materials} → first_failing (section_tests c) ≡ None → materials.materials_of c.grade ≡ Ok m
    → Ok (design_of c m) ≡ accepted c
unfolding accepted
ready_is c e m = rw (e, m)

-- ---- a call that takes a section: its tests are the section tests and then `rest`

module _ (c : Counted) (rest : List (Option Refusal)) where
  -- nothing more is asked of a section that is refused; of one that is accepted, the rest
  first_refused : {r : Refusal} → accepted c ≡ Err r → first_failing (section_tests c ++ rest) ≡ Some r
  first_refused {r} e =
      let is : Some r ≡ first_failing (section_tests c) = rw e at (section_refusal c) in
      first_of (section_tests c) rest ∙ rw (sym is)

  after_ready : {x : Design} → accepted c ≡ Ok x → first_failing (section_tests c ++ rest) ≡ first_failing rest
  after_ready e =
      let is : None ≡ first_failing (section_tests c) = rw e at (section_refusal c) in
      first_of (section_tests c) rest ∙ rw (sym is)

module _ {A : Type 0} (found : Design → A) where
  module _ (c : Counted) (rest : Result Design Refusal → List (Option Refusal)) where
    -- a section that is refused
    pub call_refused : {r : Refusal} → accepted c ≡ Err r
        → answer found (first_failing (section_tests c ++ rest (accepted c))) (accepted c) ≡ Err r
    call_refused e = rw (first_refused c (rest (accepted c)) e)

    -- one that is accepted: the rest decides
    pub call_ready : {x : Design} → accepted c ≡ Ok x
        → answer found (first_failing (section_tests c ++ rest (accepted c))) (accepted c)
        ≡ answer found (first_failing (rest (Ok x))) (Ok x)
    call_ready {x} e = rw (after_ready c (rest (accepted c)) e, e)

    -- the refusal of the answer is that of the first test that fails
    pub call_refusal : result_err (answer found (first_failing (section_tests c ++ rest (accepted c))) (accepted c))
        ≡ first_failing (section_tests c ++ rest (accepted c))
    call_refusal = go (accepted c) _ refl refl
      where
        go : (a : Result Design Refusal) (k : Option Refusal) → accepted c ≡ a
            → first_failing (section_tests c ++ rest (accepted c)) ≡ k
            → result_err (answer found k a) ≡ k
        go a (Some r) e f = refl
        go (Ok x) None e f = refl
        go (Err j) None e f = absurd (none-some j (sym f ∙ first_refused c (rest (accepted c)) e))

-- what `accept` answers of a section that it accepts
pub accepted_of : (s : Section) {r : Result Accepted Refusal} {a : Accepted} → design_in r ≡ accepted (counted s) → layers_in a ≡ layers_of s → r ≡ Ok a
    → AcceptedOf s a
accepted_of s {r} {a} value layers is = record { ready = sym value ∙ ap design_in is; layers_are = layers }

-- ---- a load that passed

pub load_ok : (l : Load) → first_failing (load_tests l) ≡ None → LoadOk l
load_ok l e =
    let n = test_passed AxialForce (force_ok l.n) _ e in
    let m = test_passed BendingMoment (moment_ok l.m) _ n.1 in
    let v = test_passed ShearForce (force_ok l.v) None m.1 in
    record { n_in = symmetric 500000000 l.n n.0; m_in = symmetric 1000000000000 l.m m.0; v-in = symmetric 500000000 l.v v.0 }

-- ---- links that passed

-- where links are present, their tests ask for what stands after the "or"
or_present : {a t : Bool} → a || t ≡ true → a ≡ false → t ≡ true
or_present {a = true} h e = absurd (clash refl e)
or_present {a = false} h e = h

is_zero : (z : ℤ) → in_range (pos 0) (pos 0) z ≡ true → z ≡ pos 0
is_zero z e =
    let w = natural 0 0 z e in
    let none : nat_abs z ≡ 0 = omega (arith, w.high) in
    w.is ∙ ap pos none

pub links-ok : (k : Links) (l : Load) → first_failing (link_tests k l) ≡ None → LinksOk k l
links-ok k l e =
    let a = test_passed LinkArea (absent k || link_area_ok k) _ e in
    let s = test_passed LinkSpacing (absent k || link_spacing_ok k) _ a.1 in
    let n = test_passed LinksUnderForce (absent k || in_range (pos 0) (pos 0) l.n) None s.1 in
    record {
      ranges = λ h.
          let area = both_true (leb 1 k.area) (leb k.area 5000) (or_present a.0 h) in
          let spacing = both_true (leb 25 k.spacing) (leb k.spacing 1000) (or_present s.0 h) in
          record {
            area-high = leb-true _ _ area.1;
            spacing_low = leb-true _ _ spacing.0;
            spacing_high = leb-true _ _ spacing.1;
          };
      no_axial = λ h. is_zero l.n (or_present n.0 h);
    }

-- the refusals that the tests of load and links have
pub load_link_among : (k : Links) (l : Load) → Among load_link_refusals (first_failing (load_link_tests k l))
load_link_among k l =
    test_among AxialForce (force_ok l.n) (record { member = tt }) (
    test_among BendingMoment (moment_ok l.m) (record { member = tt }) (
    test_among ShearForce (force_ok l.v) (record { member = tt }) (
    test_among LinkArea (absent k || link_area_ok k) (record { member = tt }) (
    test_among LinkSpacing (absent k || link_spacing_ok k) (record { member = tt }) (
    test_among LinksUnderForce (absent k || in_range (pos 0) (pos 0) l.n) (record { member = tt }) no_test)))))

-- both passed
pub record LoadLinksOk (k : Links) (l : Load) : Type 0 where
  pub load : LoadOk l
  pub links : LinksOk k l

pub load-links-ok : (k : Links) (l : Load) → first_failing (load_link_tests k l) ≡ None → LoadLinksOk k l
load-links-ok k l e =
    let both = both_none (first_failing (load_tests l)) (first_failing (link_tests k l)) (sym (first_of (load_tests l) (link_tests k l)) ∙ e) in
    record { load = load_ok l both.0; links = links-ok k l both.1 }

-- a section, a load and links that passed all their tests
pub record AllPassed (c : Counted) (k : Links) (l : Load) : Type 0 where
  pub design : Design
  pub section : SectionPromise c design
  pub loaded : LoadLinksOk k l

passed_by : (c : Counted) (k : Links) (l : Load) (a : Result Design Refusal) → PromisedSection c a → result_err a ≡ None
    → first_failing (load_link_tests k l) ≡ None
    → AllPassed c k l
passed_by c k l (Ok x) p z e = record { design = x; section = p; loaded = load-links-ok k l e }
passed_by c k l (Err j) p z e = absurd (none-some j (sym z))

pub all_passed : (s : Section) (k : Links) (l : Load) → first_failing (section_tests (counted s) ++ load_link_tests k l) ≡ None → AllPassed (counted s) k l
all_passed s k l e =
    let tests = section_tests (counted s) in
    let both = both_none (first_failing tests) (first_failing (load_link_tests k l)) (sym (first_of tests (load_link_tests k l)) ∙ e) in
    passed_by (counted s) k l (accepted (counted s)) (section_promise s) (section_refusal (counted s) ∙ both.0) both.1

-- ---- one layer, and what is left after it

-- the layer at a counted place
pub layer-at-ok : {x : Design} {count : ℕ} (ls : List Layer) (i : ℕ) {ys : List Layer} {l : Layer} → Usable x count ls → drop i ls ≡ l ∷ ys
    → LayerOk x.h l
layer-at-ok {x} ls i {l} w nx = layer-ok x.h l (all-at (depth_ok x.h) i ls w.depths nx) (all-at area_ok i ls w.areas nx)

-- no layer is deeper than h: what nearness takes of the layers
unfoldable pub DepthsWithin : ℕ → List Layer → Type 0
DepthsWithin h [] = Unit {0}
DepthsWithin h (l ∷ ls) = (l.depth ≤ h) × DepthsWithin h ls

pub depths_within : (h : ℕ) (ls : List Layer) → all (depth_ok h) ls ≡ true → DepthsWithin h ls
unfolding DepthsWithin
depths_within h [] e = tt
depths_within h (l ∷ ls) e =
    let t = both_true (depth_ok h l) (all (depth_ok h) ls) e in
    (omega (arith, layer-high h l t.0), depths_within h ls t.1)
