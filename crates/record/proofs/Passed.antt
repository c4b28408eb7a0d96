-- All that a record has to carry of a section and a load: what the machine's types say, and what the tests say. Assumes nothing.
use mathlib.Core.Path.{◌≡◌, sym, ap, ◌∙◌}
use mathlib.Core.Bool.{Bool, true}
use mathlib.Core.List.{List, [], ◌∷◌, ◌++◌}
use Prim.Native.Nat.{ℕ, zero, suc, ◌^◌, ◌≤◌, ◌<◌}
use native.Mathlib.Omega.{arith}
use lib.Dec.{lit<}
use lib.ListN.{length, get_or}
use lib.Signed.{mag}
use Rattle.std.specs.Prelude.{Option, None}
use Rattle.std.specs.Option.{option_or}
use Rattle.refusals.specs.declared.Refusal.{Refusal}
use Rattle.refusals.specs.declared.Refusal.TheVariants.{LayerSequence}
use Rattle.refusals.specs.Chain.{test, first_failing}
use Rattle.refusals.proofs.Chain.{first_of}
use Rattle.arith.proofs.Test.{both_true}
use Rattle.section.specs.Section.{counted, layers_of, links_of, all, depth_ok, area_ok, no_layer}
use Rattle.section.specs.declared.Layer.{Layer}
use Rattle.section.specs.declared.Section.{Section}
use Rattle.section.specs.declared.Load.{Load}
use Rattle.section.specs.Refusals.{section_tests, load_link_tests}
use Rattle.section.proofs.CountedLinks.{counted-small}
use Rattle.section.proofs.OneLayer.{layer-ok}
use Rattle.section.proofs.Usable.{all_passed}
use Rattle.sequence.specs.Order.{ordered}
use Rattle.record.specs.declared.fields.Number.{Number}
use Rattle.record.specs.Layout.{value_of}
use Rattle.record.proofs.Readings.{tests_of}

-- a section and a load of the machine's types: sixteen places, and numbers of 64 bits
pub record Machine (s : Section) (l : Load) : Type 0 where
  pub places : length s.layers ≡ 16
  pub numbers : (x : Number) → mag (value_of (counted s) l x) < 2 ^ 63

pub record FourBytes (y : Layer) : Type 0 where
  pub depth : y.depth < 2 ^ 32
  pub area : y.area < 2 ^ 32

pub record Carried (s : Section) (l : Load) : Type 0 where
  pub machine : Machine s l
  pub few : s.count ≤ 16
  pub layers : (j : ℕ) → FourBytes (get_or (layers_of s) j no_layer)
  pub link_area : (links_of s).area < 2 ^ 32
  pub link_spacing : (links_of s).spacing < 2 ^ 32

-- a layer that passed has a depth and an area of four bytes, and so has a place beyond the layers
four_bytes : (h : ℕ) → h ≤ 2000 → (ls : List Layer) → all (depth_ok h) ls ≡ true → all area_ok ls ≡ true → (j : ℕ)
    → FourBytes (get_or ls j no_layer)
four_bytes h low [] d a j = record { depth = lit< tt; area = lit< tt }
four_bytes h low (y ∷ ls) d a zero =
    let ok = layer-ok h y (both_true (depth_ok h y) (all (depth_ok h) ls) d).0 (both_true (area_ok y) (all area_ok ls) a).0 in
    record { depth = omega arith; area = omega arith }
four_bytes h low (y ∷ ls) d a (suc j) =
    four_bytes h low ls (both_true (depth_ok h y) (all (depth_ok h) ls) d).1 (both_true (area_ok y) (all area_ok ls) a).1 j

-- what Write asks of a section, its links and a load; the reader asks the same of layers in their sequence
abbrev pub asked_of : Section → Load → Option Refusal
asked_of s l = first_failing (section_tests (counted s) ++ load_link_tests (links_of s) l)

pub asked_in_sequence : (s : Section) (l : Load) → ordered (layers_of s) ≡ true → asked_of s l ≡ tests_of s l
asked_in_sequence s l e =
    let tests = section_tests (counted s) in
    let rest = load_link_tests (links_of s) l in
    first_of tests rest
    ∙ ap (λ (t : Bool). option_or (first_failing tests) (option_or (test LayerSequence t) (first_failing rest))) (sym e)
    ∙ sym (first_of tests (test LayerSequence (ordered (layers_of s)) ∷ rest))

pub carried : (s : Section) (l : Load) → Machine s l → asked_of s l ≡ None → Carried s l
carried s l m e =
    let p = all_passed s (links_of s) l e in
    let w = p.section.usable in
    let k = counted-small s.links l p.loaded.links in
    record {
      machine = m;
      few = w.count_high;
      layers = four_bytes p.design.h w.bounded.h-high (layers_of s) w.depths w.areas;
      link_area = omega (arith, k.0);
      link_spacing = omega (arith, k.1);
    }
