-- What Check answers of both faces, its accuracy, and that no cotangent does better. Assumes nothing.
use Prim.Native.Nat.{ℕ}
use mathlib.Core.Bool.{Bool, true, false, ◌&&◌, cond}
use mathlib.Core.List.{List, ◌++◌}
use mathlib.Core.Path.{◌≡◌, refl, sym, ap, subst, ◌∙◌}
use borrow.Author.Tests.{leb-true}
use lib.IntN.{ℤ, pos}
use lib.Signed.{le_z}
use Rattle.std.specs.Prelude.{Option, None, Some, Result, Ok, Err}
use Rattle.std.specs.Option.{option_or}
use Rattle.std.specs.Result.{result_err}
use Rattle.refusals.specs.declared.Refusal.{Refusal}
use Rattle.refusals.specs.declared.Refusal.TheVariants.{ForceTooLow, ForceTooHigh}
use Rattle.refusals.specs.Chain.{test, first_failing}
use Rattle.refusals.proofs.Chain.{first_of}
use Rattle.arith.proofs.Test.{and_true, and_no}
use Rattle.section.specs.declared.Layer.{Layer}
use Rattle.section.specs.declared.Section.{Section}
use Rattle.section.specs.declared.Links.{Links}
use Rattle.section.specs.declared.Load.{Load}
use Rattle.section.specs.declared.Design.{Design}
use Rattle.section.specs.Section.{layers_of, Counted, counted, links_of}
use Rattle.section.specs.Refusals.{accepted, load_link_tests, answer}
use Rattle.equilibrium.specs.Refusals.{carries, reaches}
use Rattle.section.specs.Turned.{turned}
use Rattle.equilibrium.specs.Depth.{face_depth}
use Rattle.equilibrium.specs.Moment.{resistance_at}
use Rattle.equilibrium.specs.Accuracy.{DepthPromise}
use Rattle.section.specs.Code.Usable.{Usable, LinksOk}
use Rattle.section.proofs.Usable.{usable_by, load-links-ok, call_refused, call_ready, call_refusal}
use Rattle.equilibrium.proofs.DepthOne.{one-turned}
use Rattle.equilibrium.proofs.Found.{depth_promise, depth_reached}
use Rattle.section.proofs.Turned.{usable_turned}
use Rattle.clauses.specs.declared.Face.{Face}
use Rattle.clauses.specs.declared.Report.{Report}
use Rattle.clauses.specs.Compressed.{of_compressed}
use Rattle.clauses.specs.Refusals.{faces_tests, faces_tests_of, check_tests}
use Rattle.clauses.specs.Check.{face_at, report_of, report_at, reported, check_faces, check_in, check_of, OfReport}
use Rattle.verdicts.specs.declared.Verdict.{Verdict}
use Rattle.verdicts.specs.Verdicts.{first}
use Rattle.clauses.specs.Accuracy.{top_of, bottom_of, AccurateFace, AccurateFaces, AccurateCheck}
use Rattle.clauses.specs.Best.{BestAnswer, BestLinks}
use Rattle.links.specs.Links.{lesser, BestCotangent}
use Rattle.links.proofs.Whole.{best_cotangent}
use Rattle.clauses.specs.Linked.{truss_of, reaches_links, link_report, linked_report}

-- ---- the answer of Check, by cases of the section tests and of those of load and links

module _ (x : Design) (top bottom : List Layer) (k : Links) (load : Load) where
  module _ (same : carries x bottom load.n 1 ≡ carries x top load.n 1) where
    -- depth 1 is the same for both faces, and so for the one that M compresses
    compressed : carries x (of_compressed load.m top bottom) load.n 1 ≡ carries x top load.n 1
    compressed = go (le_z (pos 0) load.m)
      where
        go : (z : Bool) → carries x (cond z top bottom) load.n 1 ≡ carries x top load.n 1
        go true = refl
        go false = same

    pub one_refused : carries x top load.n 1 ≡ false → Err ForceTooLow ≡ check_faces x top bottom k load
    unfolding check_faces
    one_refused e = rw (compressed, e)

    -- where depth 1 carries: 12 by the tests of both faces, or the report
    module _ (one : carries x top load.n 1 ≡ true) where
      abbrev both : Bool
      both = reaches x top load.n && reaches x bottom load.n

      by_both : {t : Bool} → both ≡ t
          → answer (reported top bottom k load) (option_or (test ForceTooHigh t) None) (Ok x) ≡ check_faces x top bottom k load
      unfolding check_faces
      by_both e = rw (compressed, one, e)

      pub top_refused : reaches x top load.n ≡ false → Err ForceTooHigh ≡ check_faces x top bottom k load
      top_refused e = by_both {t = false} (rw e)

      pub bottom_refused : reaches x bottom load.n ≡ false → Err ForceTooHigh ≡ check_faces x top bottom k load
      bottom_refused e = by_both {t = false} (rw e (and_no (reaches x top load.n)))

      pub both-reached : reaches x top load.n ≡ true → reaches x bottom load.n ≡ true
          → Ok (reported top bottom k load x) ≡ check_faces x top bottom k load
      both-reached t b = by_both {t = true} (and_true t b)

-- What holds of 11, of 12, and of the report of both faces at depths that keep their promise, holds of the answer: by cases of the test for 11,
-- which the faces share, and of each one's for 12.
module _ {x : Design} {count : ℕ} (ls : List Layer) (k : Links) (load : Load) (w : Usable x count ls) where
  abbrev below : List Layer
  below = turned x.h ls

  same_one : carries x below load.n 1 ≡ carries x ls load.n 1
  same_one = one-turned ls load.n w

  depth_at : {zs : List Layer} → Usable x count zs → carries x zs load.n 1 ≡ true → reaches x zs load.n ≡ true
      → DepthPromise x zs load.n (face_depth zs load.n x)
  depth_at v one e = depth_promise load.n v one (leb-true _ _ (sym (depth_reached load.n v one) ∙ e))

  pub faces_cases : (Q : Result Report Refusal → Type 0) → Q (Err ForceTooLow) → Q (Err ForceTooHigh)
      → ((t b : ℕ) → DepthPromise x ls load.n t → DepthPromise x below load.n b → Q (Ok (report_at x k load ls below t b)))
      → Q (check_faces x ls below k load)
  faces_cases Q eleven twelve done = go (carries x ls load.n 1) (reaches x ls load.n) (reaches x below load.n) refl refl refl
    where
      go : (one high low : Bool) → carries x ls load.n 1 ≡ one → reaches x ls load.n ≡ high → reaches x below load.n ≡ low
          → Q (check_faces x ls below k load)
      go false high low e t b = rw (← one_refused x ls below k load same_one e) eleven
      go true false low e t b = rw (← top_refused x ls below k load same_one e t) twelve
      go true true false e t b = rw (← bottom_refused x ls below k load same_one e b) twelve
      go true true true e t b =
          rw (← both-reached x ls below k load same_one e t b)
          (done (face_depth ls load.n x) (face_depth below load.n x) (depth_at w e t) (depth_at (usable_turned ls w) (same_one ∙ e) b))

-- ---- where there are links and tension layers, the links' figures are those of the truss

module _ (x : Design) (k : Links) (v : ℤ) (As dm : ℕ) (e : reaches_links k As ≡ true) where
  linked_is : linked_report x k v As dm ≡ link_report (truss_of x k dm) v
  unfolding linked_report
  linked_is = rw e refl

  linked_best : BestCotangent (truss_of x k dm) (linked_report x k v As dm).cotangent
  linked_best = rw linked_is (best_cotangent (truss_of x k dm))

  linked-least : (linked_report x k v As dm).resistance ≡ lesser (truss_of x k dm) (linked_report x k v As dm).cotangent
  linked-least = rw linked_is refl

-- ---- a report's faces are the top and the bottom, whatever the sign of M

module _ (x : Design) (k : Links) (load : Load) (top bottom : List Layer) (t b : ℕ) where
  abbrev report : Report
  report = report_at x k load top bottom t b

  faces_are : (top_of load.m report ≡ face_at x top t) × (bottom_of load.m report ≡ face_at x bottom b)
  unfolding report_at report_of
  faces_are = go (le_z (pos 0) load.m) (face_at x top t) (face_at x bottom b)
    where
      go : (z : Bool) (f g : Face) → (cond z (record { u = (cond z f g).u; mrd = (cond z f g).mrd }) (cond z g f) ≡ f)
          × (cond z (cond z g f) (record { u = (cond z f g).u; mrd = (cond z f g).mrd }) ≡ g)
      go true f g = (refl, refl)
      go false f g = (refl, refl)

  moment_is : report.moment ≡ first load.m (resistance_at x top t) (resistance_at x bottom b)
  unfolding report_at report_of
  moment_is = refl

  -- by that sign it is what is reported of the one that M compresses
  abbrev verdict_one : Verdict
  verdict_one = first load.m (resistance_at x top t) (resistance_at x bottom b)

  pub top_compressed : le_z (pos 0) load.m ≡ true → report_of x top k load (face_at x top t) (face_at x bottom b) verdict_one ≡ report
  unfolding report_at
  top_compressed e = rw e

  pub bottom_compressed : le_z (pos 0) load.m ≡ false → report_of x bottom k load (face_at x bottom b) (face_at x top t) verdict_one ≡ report
  unfolding report_at
  bottom_compressed e = rw e

  best_is : BestAnswer k x report
  unfolding report_at report_of
  best_is = record { best = linked_best x k load.v report.area report.dm; least = linked-least x k load.v report.area report.dm }

-- ---- Check of a section as it is read

module _ (c : Counted) (k : Links) (load : Load) where
  abbrev tests : List (Option Refusal)
  tests = load_link_tests k load

  abbrev found : Design → Report
  found x = reported c.layers (turned x.h c.layers) k load x

  abbrev under-load : Result Design Refusal → List (Option Refusal)
  under-load a = tests ++ faces_tests_of a c.layers load

  pub check_refused : {r : Refusal} → accepted c ≡ Err r → Err r ≡ check_in c k load
  unfolding check_in
  check_refused e = sym (call_refused found c under-load e)

  -- of an accepted section the tests of load and links come next, and then those of the faces
  check_ready : {x : Design} → accepted c ≡ Ok x
      → check_in c k load ≡ answer found
      (option_or (first_failing tests) (first_failing (faces_tests x c.layers (turned x.h c.layers) load))) (Ok x)
  unfolding check_in
  check_ready {x} e =
      call_ready found c under-load e
      ∙ ap (λ (o : Option Refusal). answer found o (Ok x)) (first_of tests (faces_tests x c.layers (turned x.h c.layers) load))

  pub load_refused : {x : Design} {r : Refusal} → accepted c ≡ Ok x → Some r ≡ first_failing tests → Err r ≡ check_in c k load
  load_refused e is = sym (check_ready e ∙ rw (sym is))

  pub load_passed : {x : Design} → accepted c ≡ Ok x → first_failing tests ≡ None
      → check_faces x c.layers (turned x.h c.layers) k load ≡ check_in c k load
  unfolding check_faces
  load_passed {x} e none = sym (check_ready e ∙ rw none (of_faces (first_failing (faces_tests x c.layers (turned x.h c.layers) load))))
    where
      of_faces : (o : Option Refusal) → answer found o (Ok x) ≡ answer (reported c.layers (turned x.h c.layers) k load) o (Ok x)
      of_faces None = refl
      of_faces (Some r) = refl

  pub check_refusal : result_err (check_in c k load) ≡ first_failing (check_tests c k load)
  unfolding check_in
  check_refusal = call_refusal found c under-load

-- ---- Check of a section in hand

module _ (s : Section) (load : Load) where
  -- what holds of every report, each face at a depth that keeps its promise, holds of Check's

  -- an accepted section and links that passed their tests, at the depth of each face
  pub record Under (x : Design) (t b : ℕ) : Type 0 where
    pub usable : Usable x s.count (layers_of s)
    pub links : LinksOk (links_of s) load
    pub top : DepthPromise x (layers_of s) load.n t
    pub bottom : DepthPromise x (turned x.h (layers_of s)) load.n b

  abbrev pub report_with : Design → ℕ → ℕ → Report
  report_with x t b = report_at x (links_of s) load (layers_of s) (turned x.h (layers_of s)) t b

  module _ (P : Design → Report → Type 0)
      (each : (x : Design) (t b : ℕ) → Under x t b → P x (report_with x t b)) where
    report-under : {x : Design} (k : Option Refusal) → k ≡ first_failing (load_link_tests (links_of s) load) → accepted (counted s) ≡ Ok x
        → OfReport P (Ok x) (check_of s load)
    report-under {x} None none e =
        let ls = layers_of s in
        let w = usable_by s e in
        let linked = (load-links-ok (links_of s) load (sym none)).links in
        rw (← load_passed (counted s) (links_of s) load e (sym none))
        (faces_cases ls (links_of s) load w (OfReport P (Ok x)) tt tt
        (λ t b p q. each x t b (record { usable = w; links = linked; top = p; bottom = q })))
    report-under (Some r) some e = rw (← load_refused (counted s) (links_of s) load e some) tt

    report_for : (a : Result Design Refusal) → accepted (counted s) ≡ a → OfReport P a (check_of s load)
    report_for (Err j) e = rw (← check_refused (counted s) (links_of s) load e) tt
    report_for (Ok x) e = report-under (first_failing (load_link_tests (links_of s) load)) refl e

    pub of_report : OfReport P (accepted (counted s)) (check_of s load)
    of_report = report_for (accepted (counted s)) refl

  -- accuracy: of each face, from the promise of its depth
  accurate_report : (x : Design) (t b : ℕ) → Under x t b → AccurateFaces x (layers_of s) load (report_with x t b)
  accurate_report x t b w =
      let ls = layers_of s in
      let faces = faces_are x (links_of s) load ls (turned x.h ls) t b in
      let top = faces.0 in
      let bottom = faces.1 in
      record {
        top = subst (AccurateFace x ls load.n) (sym top) w.top.accurate;
        bottom = subst (AccurateFace x (turned x.h ls) load.n) (sym bottom) w.bottom.accurate;
        taken = moment_is x (links_of s) load ls (turned x.h ls) t b ∙ (λ i. first load.m (sym top i).mrd (sym bottom i).mrd);
      }

  pub check_accurate : AccurateCheck (counted s) load (check_of s load)
  check_accurate = of_report (λ x. AccurateFaces x (layers_of s) load) accurate_report

  -- the links' cotangent: of every report
  pub check_best : BestLinks (counted s) (links_of s) (check_of s load)
  check_best = of_report (BestAnswer (links_of s)) (λ x t b w. best_is x (links_of s) load (layers_of s) (turned x.h (layers_of s)) t b)

  -- the other clauses of `check_section` follow from its first
  pub check_clauses : {r : Result Report Refusal} → r ≡ check_of s load
      → (r ≡ check_of s load)
      × ((result_err r ≡ first_failing (check_tests (counted s) (links_of s) load)) × (AccurateCheck (counted s) load r × BestLinks (counted s) (links_of s) r))
  check_clauses e = (e, (rw e (check_refusal (counted s) (links_of s) load), (rw e check_accurate, rw e check_best)))
