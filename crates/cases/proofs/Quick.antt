-- A row of Find a depth names the depth, and one of Check those of both faces: so each is tried there and at the next tenth, or by the search by
-- intervals, and not at every depth of the range, which would take the computed test some five or ten thousand trials a row. Assumes nothing.
use Prim.Native.Nat.{ℕ, zero, suc, ◌+◌, ◌*◌, ◌≤◌}
use mathlib.Core.Bool.{Bool, true, false, ◌&&◌, ◌||◌, cond}
use mathlib.Core.List.{List, [], ◌∷◌}
use mathlib.Core.Path.{◌≡◌, refl, sym, ap, ◌∙◌}
use native.Mathlib.Omega.{arith}
use lib.Dec.{T, eqb, leb, eqb_refl}
use lib.IntN.{ℤ}
use lib.ListN.{length}
use borrow.Author.Tests.{leb-true, eqb-true, ne_eqb}
use Rattle.std.specs.Prelude.{Option, None, Some, Result, Ok, Err}
use Rattle.refusals.specs.declared.Refusal.{Refusal}
use Rattle.refusals.specs.declared.Refusal.TheVariants.{ForceTooHigh}
use Rattle.refusals.specs.Number.{number_or_0}
use Rattle.refusals.specs.Chain.{first_failing}
use Rattle.refusals.proofs.Number.{number_above_0}
use Rattle.arith.specs.Every.{every}
use Rattle.arith.proofs.Greatest.{le-greatest, greatest-le, greatest_between}
use Rattle.arith.proofs.Test.{holds, is_true, and_yes, and_true, both_true, by_cond, clash}
use Rattle.section.specs.declared.Layer.{Layer}
use Rattle.section.specs.declared.Section.{Section}
use Rattle.section.specs.declared.Load.{Load}
use Rattle.section.specs.declared.Design.{Design}
use Rattle.section.specs.Section.{layers_of, counted, links_of}
use Rattle.section.specs.Load.{force_ok}
use Rattle.section.specs.Refusals.{accepted, load_link_tests}
use Rattle.section.specs.Code.Usable.{Bounded, Usable}
use Rattle.section.specs.Turned.{turned}
use Rattle.section.specs.Code.Altered.{with_layer}
use Rattle.section.proofs.Turned.{usable_turned}
use Rattle.section.proofs.Usable.{usable_by}
use Rattle.beyond.specs.Depth.{least_reaching}
use Rattle.equilibrium.specs.Refusals.{carries, up_to_10h, reaches}
use Rattle.equilibrium.specs.declared.Depth.{Depth}
use Rattle.equilibrium.specs.Depth as depth
use Rattle.equilibrium.specs.Depth.{depth_under, face_depth, find_depth}
use Rattle.equilibrium.proofs.Accuracy.{never_back}
use Rattle.equilibrium.proofs.DepthOne.{one-turned}
use Rattle.equilibrium.proofs.Found.{depth_reached, kind, depth_kind, find-in}
use Rattle.clauses.specs.declared.Listed.{Listed}
use Rattle.clauses.specs.declared.Report.{Report}
use Rattle.clauses.specs.Compressed.{of_compressed, of_other}
use Rattle.clauses.specs.Check.{listed, report_at, check_faces, check_of}
use Rattle.clauses.proofs.Checking.{load_passed, top_refused, bottom_refused, both-reached}
use Rattle.clauses.proofs.Trial.{trial_copied}
use Rattle.cases.specs.Case.{DepthRow, is_found, depth_holds, CheckRow, same_listed, check_holds, LayerRow, layer_holds}
use Rattle.cases.proofs.Tried.{answers_by, answered}

-- ---- u is the depth of a face under N, 0 for none: up to 10h it carries and the next tenth does not, or it is 10h; beyond 10h it is what the
-- search by intervals answers

unfoldable pub is_depth : Design → List Layer → ℤ → ℕ → Bool
is_depth x ls N u =
    cond (up_to_10h x ls N)
    (leb u (10 * x.h) && (carries x ls N u && cond (carries x ls N (u + 1)) (eqb u (10 * x.h)) true))
    (answers_by x ls N 400 (10 * x.h + 1) (30 * x.h) u)

module _ (x : Design) (ls : List Layer) (N : ℤ) (u : ℕ) where
  by_next : (t : Bool) → u ≤ 10 * x.h → carries x ls N u ≡ true → carries x ls N (u + 1) ≡ t → cond t (eqb u (10 * x.h)) true ≡ true
      → depth_under ls N x ≡ u
  by_next false most here next last = sym (greatest_between (carries x ls N) (never_back x ls N) most here next)
  by_next true most here next last =
      let end : u ≡ 10 * x.h = eqb-true u (10 * x.h) last in
      omega (arith, end, le-greatest (carries x ls N) (10 * x.h) u most here, greatest-le (carries x ls N) (10 * x.h))

  up_to_is : leb u (10 * x.h) && (carries x ls N u && cond (carries x ls N (u + 1)) (eqb u (10 * x.h)) true) ≡ true → depth_under ls N x ≡ u
  up_to_is e =
      let a = both_true (leb u (10 * x.h)) (carries x ls N u && cond (carries x ls N (u + 1)) (eqb u (10 * x.h)) true) e in
      let b = both_true (carries x ls N u) (cond (carries x ls N (u + 1)) (eqb u (10 * x.h)) true) a.1 in
      by_next (carries x ls N (u + 1)) (leb-true u (10 * x.h) a.0) b.0 refl b.1

  depth_by : (t : Bool) → Bounded x
      → cond t (leb u (10 * x.h) && (carries x ls N u && cond (carries x ls N (u + 1)) (eqb u (10 * x.h)) true))
      (answers_by x ls N 400 (10 * x.h + 1) (30 * x.h) u) ≡ true
      → cond t (depth_under ls N x) (least_reaching x ls N) ≡ u
  depth_by true b e = up_to_is e
  depth_by false b e = answered x ls N (omega (arith, b.materials.E-low)) u 400 (omega (arith, b.h-low)) e

  depth_is : Bounded x → is_depth x ls N u ≡ true → face_depth ls N x ≡ u
  unfolding is_depth
  depth_is b e = depth_by (up_to_10h x ls N) b e

-- ---- a row of Find a depth that has a depth, or 12

-- d is the depth u after so many trials, or 12 where u is 0
abbrev is_it : ℕ → ℕ → Result Depth Refusal → Bool
is_it u trials d = is_found d (cond (eqb u 0) 12 0) u trials

-- the answer that a depth stands for is that depth, where its trials are as many
of_kind : (x : Design) (u trials : ℕ) → eqb (depth.trials_found (kind x u)) trials ≡ true → is_it u trials (kind x u) ≡ true
of_kind x zero trials = λ e. e
of_kind x (suc u) trials =
    let some = ne_eqb (suc u) 0 (λ e. omega arith) in
    let same = is_true (eqb (suc u) (suc u)) (eqb_refl (suc u)) in
    by_cond (λ d. eqb (depth.trials_found d) trials ≡ true → is_it (suc u) trials d ≡ true) (leb (suc u) (10 * x.h))
    (λ t e. rw (some, same) e) (λ f e. rw (some, same) e)

module _ (s : Section) (N : ℤ) (u trials : ℕ) where
  unfoldable pub found_at : Result Design Refusal → Bool
  found_at (Ok x) = force_ok N && (carries x (layers_of s) N 1 && (is_depth x (layers_of s) N u && eqb (depth.trials_found (kind x u)) trials))
  found_at (Err j) = false

  found_sound : (a : Result Design Refusal) → accepted (counted s) ≡ a → found_at a ≡ true → is_it u trials (find_depth s N) ≡ true
  unfolding found_at
  found_sound (Err j) e h = absurd (holds h)
  found_sound (Ok x) e h =
      let ls = layers_of s in
      let loaded = both_true (force_ok N) _ h in
      let one = both_true (carries x ls N 1) _ loaded.1 in
      let found = both_true (is_depth x ls N u) (eqb (depth.trials_found (kind x u)) trials) one.1 in
      let w = usable_by s e in
      let is = find-in s N e loaded.0 ∙ depth_kind N w one.0 ∙ ap (kind x) (depth_is x ls N u w.bounded found.0) in
      ap (is_it u trials) is ∙ of_kind x u trials found.1

-- ---- a row of Check that has depths, or 12

-- every refusal has a number above 0
none_by : (o : Option Refusal) → number_or_0 o ≡ 0 → o ≡ None
none_by None e = refl
none_by (Some r) e = absurd (omega (arith, number_above_0 r, e))

module _ (s : Section) (load : Load) (l : Listed) where
  abbrev top : ℕ
  top = of_compressed load.m l.u l.other.u

  abbrev bottom : ℕ
  bottom = of_other load.m l.u l.other.u

  abbrev below : Design → List Layer
  below x = turned x.h (layers_of s)

  abbrev report : Design → Result Report Refusal
  report x = Ok (report_at x (links_of s) load (layers_of s) (below x) top bottom)

  abbrev reported_as : Design → Bool
  reported_as x =
      is_depth x (layers_of s) load.n top && (is_depth x (below x) load.n bottom && (leb 1 top && (leb 1 bottom && same_listed (listed (report x)) l)))

  abbrev refused_as : Design → Bool
  refused_as x = (is_depth x (layers_of s) load.n 0 || is_depth x (below x) load.n 0) && same_listed (listed (Err ForceTooHigh)) l

  unfoldable pub reports : Result Design Refusal → Bool
  reports (Ok x) =
      eqb (number_or_0 (first_failing (load_link_tests (links_of s) load))) 0
      && (carries x (layers_of s) load.n 1 && cond (eqb l.refusal 0) (reported_as x) (refused_as x))
  reports (Err j) = false

  module _ {x : Design} (w : Usable x s.count (layers_of s)) (one : carries x (layers_of s) load.n 1 ≡ true) where
    abbrev answer : Result Report Refusal
    answer = check_faces x (layers_of s) (below x) (links_of s) load

    same : carries x (below x) load.n 1 ≡ carries x (layers_of s) load.n 1
    same = one-turned (layers_of s) load.n w

    v : Usable x s.count (below x)
    v = usable_turned (layers_of s) w

    -- whether each face reaches N, by its depth
    top_by : (u : ℕ) → is_depth x (layers_of s) load.n u ≡ true → reaches x (layers_of s) load.n ≡ leb 1 u
    top_by u e = depth_reached load.n w one ∙ ap (leb 1) (depth_is x (layers_of s) load.n u w.bounded e)

    bottom_by : (u : ℕ) → is_depth x (below x) load.n u ≡ true → reaches x (below x) load.n ≡ leb 1 u
    bottom_by u e = depth_reached load.n v (same ∙ one) ∙ ap (leb 1) (depth_is x (below x) load.n u v.bounded e)

    reported_sound : reported_as x ≡ true → same_listed (listed answer) l ≡ true
    reported_sound h =
        let t = both_true (is_depth x (layers_of s) load.n top) _ h in
        let b = both_true (is_depth x (below x) load.n bottom) _ t.1 in
        let high = both_true (leb 1 top) _ b.1 in
        let low = both_true (leb 1 bottom) _ high.1 in
        let is : answer ≡ report x = sym (both-reached x (layers_of s) (below x) (links_of s) load same one (top_by top t.0 ∙ high.0)
        (bottom_by bottom b.0 ∙ low.0)) ∙ (λ i. Ok (report_at x (links_of s) load (layers_of s) (below x)
        (depth_is x (layers_of s) load.n top w.bounded t.0 i) (depth_is x (below x) load.n bottom v.bounded b.0 i))) in
        ap (λ r. same_listed (listed r) l) is ∙ low.1

    twelve : (high low : Bool) → is_depth x (layers_of s) load.n 0 ≡ high → is_depth x (below x) load.n 0 ≡ low → high || low ≡ true
        → Err ForceTooHigh ≡ answer
    twelve true low t b h = top_refused x (layers_of s) (below x) (links_of s) load same one (top_by 0 t)
    twelve false true t b h = bottom_refused x (layers_of s) (below x) (links_of s) load same one (bottom_by 0 b)
    twelve false false t b h = absurd (clash h refl)

    refused_sound : refused_as x ≡ true → same_listed (listed answer) l ≡ true
    refused_sound h =
        let both = both_true (is_depth x (layers_of s) load.n 0 || is_depth x (below x) load.n 0) _ h in
        ap (λ r. same_listed (listed r) l) (sym (twelve _ _ refl refl both.0)) ∙ both.1

  reports_sound : (a : Result Design Refusal) → accepted (counted s) ≡ a → reports a ≡ true → same_listed (listed (check_of s load)) l ≡ true
  unfolding reports
  reports_sound (Err j) e h = absurd (holds h)
  reports_sound (Ok x) e h =
      let loaded = both_true (eqb (number_or_0 (first_failing (load_link_tests (links_of s) load))) 0) _ h in
      let faces = both_true (carries x (layers_of s) load.n 1) _ loaded.1 in
      let w = usable_by s e in
      ap (λ r. same_listed (listed r) l) (sym (load_passed (counted s) (links_of s) load e (none_by _ (eqb-true _ 0 loaded.0))))
      ∙ by_cond (λ t. t ≡ true → same_listed (listed (answer w faces.0)) l ≡ true) (eqb l.refusal 0) (λ t. reported_sound w faces.0)
      (λ f. refused_sound w faces.0) faces.1

-- ---- the test that is computed of a row, and that it says no less than the row

abbrev found_row : DepthRow → Bool
found_row row = found_at row.section row.n row.u row.trials (accepted (counted row.section))

-- it has a depth, or 12
abbrev found : DepthRow → Bool
found row = eqb row.refusal (cond (eqb row.u 0) 12 0)

abbrev pub tries : DepthRow → Bool
tries row = cond (found row) (found_row row) (depth_holds row)

tries_sound : (row : DepthRow) (done : Bool) → found row ≡ done → cond done (found_row row) (depth_holds row) ≡ true → depth_holds row ≡ true
tries_sound row true is h =
    rw (eqb-true row.refusal _ is) (found_sound row.section row.n row.u row.trials (accepted (counted row.section)) refl h)
tries_sound row false is h = h

abbrev pub shows : CheckRow → Bool
shows row =
    cond (eqb row.lists.refusal 0 || eqb row.lists.refusal 12)
    (reports row.section row.load row.lists (accepted (counted row.section))) (check_holds row)

shows_sound : (row : CheckRow) (done : Bool)
    → cond done (reports row.section row.load row.lists (accepted (counted row.section))) (check_holds row) ≡ true → check_holds row ≡ true
shows_sound row true h = reports_sound row.section row.load row.lists (accepted (counted row.section)) refl h
shows_sound row false h = h

-- a trial at a place that is not beyond the number of layers is Check's of the section in hand, once it is altered
abbrev in_hand : LayerRow → CheckRow
in_hand row = record { section = with_layer row.place row.layer row.section; load = row.load; lists = row.lists }

abbrev there : LayerRow → Bool
there row = eqb (length row.section.layers) 16 && leb row.place row.section.count

abbrev pub shows_layer : LayerRow → Bool
shows_layer row = cond (there row) (shows (in_hand row)) (layer_holds row)

layer_sound : (row : LayerRow) (t : Bool) → there row ≡ t → cond t (shows (in_hand row)) (layer_holds row) ≡ true → layer_holds row ≡ true
layer_sound row false e h = h
layer_sound row true e h =
    let at = both_true (eqb (length row.section.layers) 16) (leb row.place row.section.count) e in
    let copied = trial_copied row.section row.load row.place row.layer (eqb-true _ 16 at.0) (leb-true row.place row.section.count at.1) in
    ap (λ r. same_listed (listed r) row.lists) copied ∙ shows_sound (in_hand row) (eqb row.lists.refusal 0 || eqb row.lists.refusal 12) h

-- what holds of each row holds of all
module _ {A : Type 0} (p q : A → Bool) (each : (x : A) → p x ≡ true → q x ≡ true) where
  all_sound : (xs : List A) → T (every p xs) → T (every q xs)
  all_sound [] h = h
  all_sound (x ∷ xs) h =
      let both = and_yes (p x) (every p xs) h in
      holds (and_true (each x (is_true (p x) both.0)) (is_true (every q xs) (all_sound xs both.1)))

pub depths_sound : (rows : List DepthRow) → T (every tries rows) → T (every depth_holds rows)
depths_sound = all_sound tries depth_holds (λ row. tries_sound row (found row) refl)

pub checks_sound : (rows : List CheckRow) → T (every shows rows) → T (every check_holds rows)
checks_sound = all_sound shows check_holds (λ row. shows_sound row (eqb row.lists.refusal 0 || eqb row.lists.refusal 12))

pub layers_sound : (rows : List LayerRow) → T (every shows_layer rows) → T (every layer_holds rows)
layers_sound = all_sound shows_layer layer_holds (λ row. layer_sound row (there row) refl)
