-- The section that the code hands to Check for a trial (document 02, ticket 9): it is read as the definition has it; or both have more layers than there
-- are places, and are refused alike. Assumes nothing.
use Prim.Native.Nat.{ℕ, suc, ◌+◌, ◌≤◌, ◌<◌, min}
use mathlib.Core.Bool.{false}
use mathlib.Core.List.{List, [], ◌∷◌}
use mathlib.Core.Logic.{◌⊎◌, inl, inr}
use mathlib.Core.Path.{◌≡◌, refl, sym, ◌∙◌}
use native.Mathlib.Omega.{arith}
use native.Mathlib.Decide.{dec_lt}
use lib.Dec.{leb}
use lib.IntN.{pos}
use lib.ListN.{length, get_or, set, take}
use lib.Seq.{take-set-lt, take-suc-set, set-get_or}
use borrow.Author.Tests.{eq-eqb, ne_eqb}
use Rattle.std.specs.Prelude.{Option, None, Some, Err}
use Rattle.std.specs.Result.{result_err}
use Rattle.std.proofs.lemmas.Option.{none-some}
use Rattle.arith.specs.Integer.{in_range}
use Rattle.arith.proofs.Test.{and_no}
use Rattle.refusals.specs.declared.Refusal.{Refusal}
use Rattle.refusals.specs.declared.Refusal.TheVariants.{Width, Height, LayerCount}
use Rattle.refusals.specs.Chain.{test, first_failing}
use Rattle.refusals.proofs.Chain.{both_none, test_passed}
use Rattle.materials.specs.Answer.{materials_of}
use Rattle.section.specs.declared.Layer.{Layer}
use Rattle.section.specs.declared.Section.{Section}
use Rattle.section.specs.Section.{Counted, counted}
use Rattle.section.specs.Refusals.{section_tests, accepted}
use Rattle.section.specs.Altered.{altered}
use Rattle.section.specs.Code.Altered.{with_layer}
use Rattle.section.proofs.Usable.{refused_is}

-- ---- more than sixteen layers

-- the tests before that of the number of layers, and 5
abbrev pub tests_to_5 : Counted → List (Option Refusal)
tests_to_5 c =
    test Width (in_range (pos 50) (pos 2000) c.width)
    ∷ test Height (in_range (pos 50) (pos 2000) c.height)
    ∷ result_err (materials_of c.grade)
    ∷ Some LayerCount
    ∷ []

high-count : (n : ℕ) → 16 < n → leb n 16 ≡ false
high-count n h = grind arith

-- 5 comes at its place, whatever the layers
too_many : (c : Counted) → 16 < c.count → first_failing (section_tests c) ≡ first_failing (tests_to_5 c)
unfolding section_tests
too_many c h = rw (high-count c.count h, and_no (leb 1 c.count)) refl

-- so some refusal comes
some-refusal : (c : Counted) → first_failing (tests_to_5 c) ≡ None → ⊥
some-refusal c e =
    let w = test_passed Width (in_range (pos 50) (pos 2000) c.width) _ e in
    let h = test_passed Height (in_range (pos 50) (pos 2000) c.height) _ w.1 in
    none-some LayerCount (sym (both_none (result_err (materials_of c.grade)) _ h.1).1)

-- two sections that are refused alike, by 5 or a test before it
pub record RefusedAlike (c d : Counted) : Type 0 where
  pub refusal : Refusal
  pub is : first_failing (tests_to_5 c) ≡ Some refusal
  pub left : accepted c ≡ Err refusal
  pub right : accepted d ≡ Err refusal

-- both of more than sixteen layers, with the same b, h and grade
refused_alike : (c d : Counted) → first_failing (tests_to_5 c) ≡ first_failing (tests_to_5 d) → 16 < c.count → 16 < d.count → RefusedAlike c d
refused_alike c d same m n = go (first_failing (tests_to_5 c)) refl
  where
    go : (k : Option Refusal) → first_failing (tests_to_5 c) ≡ k → RefusedAlike c d
    go None e = absurd (some-refusal c e)
    go (Some r) e =
        record {
          refusal = r;
          is = e;
          left = sym (refused_is c (too_many c m ∙ e));
          right = sym (refused_is d (too_many d n ∙ sym same ∙ e));
        }

-- ---- the section in hand

-- the number of layers, one more: it ends at the greatest of its type, far above sixteen
one_more : (n : ℕ) → n < 16 → min (n + 1) 18446744073709551615 ≡ n + 1
one_more n h = grind arith

many_more : (n : ℕ) → 16 ≤ n → 16 < min (n + 1) 18446744073709551615
many_more n h = grind arith

module _ (s : Section) (place : ℕ) (l : Layer) where
  -- what is read of it with this layer written at the place, and this number of layers
  abbrev pub with_count : ℕ → Counted
  with_count n = record { width = s.width; height = s.height; grade = s.grade; count = n; layers = take n (set s.layers place l) }

  abbrev held : Counted
  held = counted (with_layer place l s)

  abbrev defined : Counted
  defined = altered place l (counted s)

  -- a layer stands there
  pub replaces : place < s.count → with_count s.count ≡ defined
  replaces h = rw (ne_eqb place s.count (λ e. omega (arith, e, h)), take-set-lt s.count s.layers place l h) refl

  -- it is the number, and one of the sixteen places is free
  pub adds : place ≡ s.count → s.count < length s.layers → with_count (s.count + 1) ≡ defined
  adds e n =
      let one : s.count + 1 ≡ suc s.count = omega arith in
      rw (eq-eqb place s.count e, e, one, take-suc-set s.layers s.count l n) refl

  -- none is free
  pub full : place ≡ s.count → 16 ≤ s.count → RefusedAlike held defined
  full e h =
      let t = eq-eqb place s.count e in
      refused_alike held defined (rw t refl) (rw t (many_more s.count h)) (rw t (omega (arith, h)))

  pub read_or_refused : length s.layers ≡ 16 → place ≤ s.count → (held ≡ defined) ⊎ RefusedAlike held defined
  read_or_refused n h = go (dec_lt place s.count) (dec_lt s.count 16)
    where
      go : Dec (place < s.count) → Dec (s.count < 16) → (held ≡ defined) ⊎ RefusedAlike held defined
      go (yes p) room = inl (rw (ne_eqb place s.count (λ e. omega (arith, e, p))) refl ∙ replaces p)
      go (no p) (yes q) =
          let e : place ≡ s.count = omega arith in
          inl (rw (eq-eqb place s.count e, one_more s.count q) refl ∙ adds e (omega (arith, n)))
      go (no p) (no q) = inr (full (omega arith) (omega arith))

-- the layer that stands there alters nothing
pub altered_same : (c : Counted) (place : ℕ) (d : Layer) → place < c.count → altered place (get_or c.layers place d) c ≡ c
altered_same c place d h = rw (ne_eqb place c.count (λ e. omega (arith, e, h)), set-get_or c.layers place d) refl
