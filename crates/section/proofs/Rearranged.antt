-- The sequence of the layers makes no difference to the section tests, and a call that it makes none to further on answers the same.
-- Assumes nothing.
use Prim.Native.Nat.{ℕ}
use mathlib.Core.Bool.{true}
use mathlib.Core.List.{List, ◌++◌}
use mathlib.Core.Logic.{◌↔◌}
use mathlib.Core.Path.{◌≡◌, refl, fun_ext, ◌∙◌}
use borrow.Author.Tests.{eqb-true, eq-eqb}
use lib.Dec.{eqb}
use lib.IntN.{nat_abs}
use Rattle.std.specs.Prelude.{Option, None, Some, Result, Ok, Err}
use Rattle.refusals.specs.declared.Refusal.{Refusal}
use Rattle.refusals.specs.Chain.{first_failing}
use Rattle.arith.specs.Rearranged.{Rearranged, times}
use Rattle.arith.proofs.Rearranged.{every_same, map_same, bags_same}
use Rattle.arith.proofs.Test.{both_true}
use Rattle.materials.specs.Answer.{materials_of}
use Rattle.materials.specs.declared.Materials.{Materials}
use Rattle.section.specs.declared.Layer.{Layer}
use Rattle.section.specs.declared.Design.{Design}
use Rattle.section.specs.Section.{Counted, depth_ok, area_ok}
use Rattle.section.specs.Refusals.{section_tests, accepted_as, accepted, answer}
use Rattle.section.specs.Turned.{turned_layer, turned}
use Rattle.section.specs.Rearranged.{SameBars, same_layer}

-- ---- a rearrangement has each layer as often

pub same_numbers : {d a d' a' : ℕ} → d ≡ d' → a ≡ a' → ◌≡◌ {A = Layer} record { depth = d; area = a } record { depth = d'; area = a' }
same_numbers e f = rw (e, f)

layers_equal : (k l : Layer) → same_layer k l ≡ true → k ≡ l
layers_equal k l e =
    let t = both_true (eqb k.depth l.depth) (eqb k.area l.area) e in
    same_numbers (eqb-true k.depth l.depth t.0) (eqb-true k.area l.area t.1)

layer_itself : (l : Layer) → same_layer l l ≡ true
layer_itself l = rw (eq-eqb l.depth l.depth refl, eq-eqb l.area l.area refl)

pub equal_bags : (xs ys : List Layer) → Rearranged xs ys ↔ ((l : Layer) → times same_layer l xs ≡ times same_layer l ys)
equal_bags = bags_same same_layer layers_equal layer_itself

-- in fields and numbers alone: no more is asked of two sections
pub same_bars : (c d : Counted) → c.width ≡ d.width → c.height ≡ d.height → c.grade ≡ d.grade → c.count ≡ d.count
    → ((l : Layer) → times same_layer l c.layers ≡ times same_layer l d.layers) → SameBars c d
same_bars c d width height grade count each =
    record { width = rw width; height = rw height; grade = rw grade; count = rw count; layers = (equal_bags c.layers d.layers).1 each }

-- ---- what a call asks

-- turned over, the layers are rearranged as they were
pub turned_same : (h : ℕ) {xs ys : List Layer} → Rearranged xs ys → Rearranged (turned h xs) (turned h ys)
unfolding turned
turned_same h same = map_same (turned_layer h) (turned h) refl (λ l ls. refl) same

module _ {c d : Counted} (same : SameBars c d) where
  pub tests_same : section_tests c ≡ section_tests d
  unfolding section_tests
  tests_same =
      rw (
        every_same (depth_ok (nat_abs c.height)) same.layers,
        every_same area_ok same.layers,
        same.width,
        same.height,
        same.grade,
        same.count,
      )

  accepted_as_lem : (k : Option Refusal) (a : Result Materials Refusal) → accepted_as k c a ≡ accepted_as k d a
  accepted_as_lem (Some r) a = refl
  accepted_as_lem None (Ok m) = rw (same.width, same.height)
  accepted_as_lem None (Err r) = refl

  accepted_same : accepted c ≡ accepted d
  unfolding accepted
  accepted_same =
      accepted_as_lem (first_failing (section_tests c)) (materials_of c.grade)
      ∙ (λ i. accepted_as (first_failing (tests_same i)) d (materials_of (same.grade i)))

  -- A call, by what it finds of an accepted section and by its tests after the section's: where these are the same of both, it answers the same.
  module _ {A : Type 0} (found : Counted → Design → A) (tests : Counted → Result Design Refusal → List (Option Refusal)) where
    pub call_same : ((x : Design) → found c x ≡ found d x) → ((a : Result Design Refusal) → tests c a ≡ tests d a)
        → answer (found c) (first_failing (section_tests c ++ tests c (accepted c))) (accepted c)
        ≡ answer (found d) (first_failing (section_tests d ++ tests d (accepted d))) (accepted d)
    call_same finds asks = rw (fun_ext finds, fun_ext asks, tests_same, accepted_same)
