-- Try a layer (document 02, ticket 9): the definition's answer is Check's of the section as the code holds it, and the clauses of that Check are those of
-- the trial. Assumes nothing.
use Prim.Native.Nat.{ℕ, ◌≤◌, ◌<◌}
use mathlib.Core.Bool.{Bool, true, false, cond}
use native.Mathlib.Omega.{arith}
use mathlib.Core.Logic.{◌⊎◌, inl, inr}
use mathlib.Core.Path.{◌≡◌, refl, sym, ap, subst, ◌∙◌}
use lib.Dec.{leb}
use lib.ListN.{length, get_or}
use borrow.Author.Tests.{le-leb, lt-leb}
use Rattle.std.specs.Prelude.{Result, Ok, Err}
use Rattle.std.specs.Option.{option_or}
use Rattle.std.specs.Result.{result_err}
use Rattle.refusals.specs.declared.Refusal.{Refusal}
use Rattle.refusals.specs.declared.Refusal.TheVariants.{LayerPlace}
use Rattle.refusals.specs.Chain.{test, first_failing}
use Rattle.section.specs.declared.Layer.{Layer}
use Rattle.section.specs.declared.Section.{Section}
use Rattle.section.specs.declared.Links.{Links}
use Rattle.section.specs.declared.Load.{Load}
use Rattle.section.specs.declared.Design.{Design}
use Rattle.section.specs.Section.{Counted, layers_of, counted, links_of}
use Rattle.section.specs.Refusals.{accepted}
use Rattle.section.specs.Altered.{altered}
use Rattle.section.specs.Code.Altered.{with_layer}
use Rattle.section.proofs.WithLayer.{tests_to_5, RefusedAlike, full, read_or_refused, altered_same}
use Rattle.clauses.specs.declared.Report.{Report}
use Rattle.clauses.specs.Refusals.{check_tests, trial_tests}
use Rattle.clauses.specs.Check.{OfReport, check_in, check_of}
use Rattle.clauses.specs.Trial.{trial_in, trial_of}
use Rattle.clauses.specs.Accuracy.{AccurateFaces, AccurateCheck}
use Rattle.clauses.specs.Best.{BestAnswer, BestLinks}
use Rattle.clauses.proofs.Checking.{check_refused, check_refusal}

-- nothing is said of a refused call
nothing_of : (P : Design → Report → Type 0) (a : Result Design Refusal) (j : Refusal) → OfReport P a (Err j)
nothing_of P (Ok x) j = tt
nothing_of P (Err r) j = tt

-- the whole answer of Check for a section, as it is read
pub record Answered (c : Counted) (k : Links) (load : Load) (r : Result Report Refusal) : Type 0 where
  pub value : r ≡ check_in c k load
  pub accurate : AccurateCheck c load r
  pub best : BestLinks c k r

-- what Check answers of a section it answers of one that is read the same, or refused alike
same_check : {c d : Counted} (k : Links) (load : Load) → (c ≡ d) ⊎ RefusedAlike c d → check_in c k load ≡ check_in d k load
same_check k load (inl e) = ap (λ (c : Counted). check_in c k load) e
same_check {c} {d} k load (inr w) = sym (check_refused c k load w.left) ∙ check_refused d k load w.right

module _ {k : Links} {load : Load} where
  -- of a section that is refused no more is said than the refusal
  answered_refused : {c : Counted} {j : Refusal} {r : Result Report Refusal} → r ≡ check_in c k load → accepted c ≡ Err j → Answered c k load r
  answered_refused {c} {j} value e =
      let is = value ∙ sym (check_refused c k load e) in
      record {
        value = value;
        accurate = rw is (nothing_of (λ x. AccurateFaces x c.layers load) (accepted c) j);
        best = rw is (nothing_of (BestAnswer k) (accepted c) j);
      }

  same-answer : {c d : Counted} {r : Result Report Refusal} → (c ≡ d) ⊎ RefusedAlike c d → Answered c k load r → Answered d k load r
  same-answer {r = r} (inl e) a = subst (λ (d : Counted). Answered d k load r) e a
  same-answer (inr w) a = answered_refused (a.value ∙ same_check k load (inr w)) w.right

-- ---- a trial

module _ (c : Counted) (k : Links) (load : Load) (place : ℕ) (l : Layer) where
  -- at a place that is not beyond the number of layers
  pub trial_at : place ≤ c.count → trial_in c k load place l ≡ check_in (altered place l c) k load
  trial_at h = rw (le-leb place c.count h)

  pub trial_refusal : result_err (trial_in c k load place l) ≡ first_failing (trial_tests c k load place l)
  trial_refusal = go (leb place c.count)
    where
      go : (t : Bool) → result_err (cond t (check_in (altered place l c) k load) (Err LayerPlace))
          ≡ option_or (test LayerPlace t) (first_failing (check_tests (altered place l c) k load))
      go true = check_refusal (altered place l c) k load
      go false = refl

-- what Check answers of the section in hand, once it is altered there, is the trial's answer
pub tried : (s : Section) (load : Load) (place : ℕ) (l : Layer) {r : Result Report Refusal} → length s.layers ≡ 16 → place ≤ s.count
    → Answered (counted (with_layer place l s)) (links_of s) load r
    → Answered (altered place l (counted s)) (links_of s) load r
tried s load place l n h a = same-answer (read_or_refused s place l n h) a

pub trial_copied : (s : Section) (load : Load) (place : ℕ) (l : Layer) → length s.layers ≡ 16 → place ≤ s.count
    → trial_of s load place l ≡ check_of (with_layer place l s) load
trial_copied s load place l n h = trial_at (counted s) (links_of s) load place l h ∙ sym (same_check (links_of s) load (read_or_refused s place l n h))

-- ---- laws that documents cite

-- "its answer is the one that Check gives for a copy so altered": for whichever section is read so
pub trial_as : (s t : Section) (load : Load) (place : ℕ) (l : Layer) → place ≤ s.count → counted t ≡ altered place l (counted s) → links_of t ≡ links_of s
    → trial_of s load place l ≡ check_of t load
trial_as s t load place l h e f = trial_at (counted s) (links_of s) load place l h ∙ sym (λ i. check_in (e i) (f i) load)

-- 33 comes before everything
pub trial_place_beyond : (s : Section) (load : Load) (place : ℕ) (l : Layer) → s.count < place → trial_of s load place l ≡ Err LayerPlace
trial_place_beyond s load place l h = rw (lt-leb place s.count h) refl

-- more than sixteen layers: 5 comes at its place in Check's sequence
pub trial_full : (s : Section) (load : Load) (place : ℕ) (l : Layer) → place ≡ s.count → 16 ≤ s.count
    → result_err (trial_of s load place l) ≡ first_failing (tests_to_5 (counted s))
trial_full s load place l e h =
    let w = full s place l e h in
    ap result_err (trial_at (counted s) (links_of s) load place l (omega (arith, e)) ∙ sym (check_refused _ (links_of s) load w.right)) ∙ sym w.is

-- the layer that stands there is Check's own section
pub trial_same : (s : Section) (load : Load) (place : ℕ) (d : Layer) → place < s.count → trial_of s load place (get_or (layers_of s) place d) ≡ check_of s load
trial_same s load place d h =
    trial_at (counted s) (links_of s) load place (get_or (layers_of s) place d) (omega (arith, h))
    ∙ ap (λ (c : Counted). check_in c (links_of s) load) (altered_same (counted s) place d h)

-- places beyond the count, and numbers of absent links
pub beyond_trial : (s t : Section) (load : Load) (place : ℕ) (l : Layer) → counted s ≡ counted t → links_of s ≡ links_of t
    → trial_of s load place l ≡ trial_of t load place l
beyond_trial s t load place l e f = λ i. trial_in (e i) (f i) load place l
