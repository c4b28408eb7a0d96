-- Laws of the clauses that documents cite and no contract needs. Assumes nothing.
use Prim.Native.Nat.{ℕ, ◌*◌, ◌≤◌, ◌<◌}
use mathlib.Core.Bool.{Bool, true, false, cond, not, ◌&&◌}
use mathlib.Core.List.{List, [], ◌∷◌}
use mathlib.Core.Path.{◌≡◌, refl, ap, subst}
use native.Mathlib.Nat.{mul-le-mul, mul-le-mul_left, le-div_iff_mul-le}
use native.Mathlib.Decide.{dec_le}
use native.Mathlib.Omega.{arith}
use borrow.Author.Tests.{ltb-false, le-ltb}
use lib.IntN.{ℤ, pos, neg_ℤ}
use lib.ListN.{length}
use lib.Signed.{le_z, ◌<ℤ◌}
use Rattle.arith.specs.Every.{every}
use Rattle.arith.specs.Greatest.{IsGreatest}
use Rattle.arith.proofs.Fraction.{tested, holds-true}
use Rattle.arith.proofs.Ring.{#, ⊖, le?, lt?}
use Rattle.arith.proofs.Greatest.{by_order}
use Rattle.arith.proofs.Test.{le-true, clash, both_true, and_no}
use Rattle.section.specs.declared.Layer.{Layer}
use Rattle.section.specs.declared.Section.{Section}
use Rattle.section.specs.declared.Links.{Links}
use Rattle.section.specs.declared.Load.{Load}
use Rattle.section.specs.declared.Design.{Design}
use Rattle.section.specs.Section.{depth_ok, layers_of, counted, absent, links_of}
use Rattle.section.specs.Code.Usable.{Usable}
use Rattle.section.specs.Refusals.{accepted}
use Rattle.section.specs.Turned.{turned}
use Rattle.section.proofs.OneLayer.{layer-low, layer-high}
use Rattle.section.proofs.Turned.{usable_turned}
use Rattle.equilibrium.specs.Refusals.{carries}
use Rattle.equilibrium.specs.Accuracy.{DepthPromise}
use Rattle.equilibrium.proofs.Pressed.{Pressed, not_pressed, none_over}
use Rattle.shear.specs.SizeFactor.{K}
use Rattle.shear.specs.Shear.{r_test, r, q_test, q, VRdc}
use Rattle.shear.specs.Code.Ranges.{StressBounds}
use Rattle.shear.proofs.Roots as roots
use Rattle.shear.proofs.Roots.{K-high}
use Rattle.verdicts.specs.Tension.{in_tension, tension_layers, total, area_of, first_moment, mean_depth, As, dm}
use Rattle.verdicts.specs.declared.Verdict.{Verdict}
use Rattle.verdicts.specs.declared.Verdict.TheVariants.{Fail}
use Rattle.verdicts.specs.Verdicts.{judged, first}
use Rattle.clauses.specs.declared.Face.{Face}
use Rattle.clauses.specs.declared.Report.{Report}
use Rattle.clauses.specs.Linked.{linked_report}
use Rattle.clauses.specs.Unreached.{Unreached}
use Rattle.clauses.specs.Check.{face_at, report_of, report_at, check_in, check_of, OfReport}
use Rattle.clauses.proofs.Checking.{Under, report_with, of_report}
use Rattle.verdicts.proofs.Layers.{total-le, all_tension, mean_is, counts, As-high, dm-high}
use Rattle.verdicts.proofs.Layers as layers

-- the mean depth of layers whose depths and areas are at least 1 is at least 1
mean-low : (h : ℕ) (ts : List Layer) → every (depth_ok h) ts ≡ true → 1 ≤ area_of ts → 1 ≤ mean_depth ts
mean-low h ts e low =
    let each : (l : Layer) → depth_ok h l ≡ true → l.area ≤ 1 * (l.area * l.depth) = λ l d. omega (arith, mul-le-mul_left l.area (layer-low h l d)) in
    let most : area_of ts ≤ first_moment ts = omega (arith, total-le (depth_ok h) (λ l. l.area) (λ l. l.area * l.depth) 1 each ts e) in
    rw (mean_is ts) ((le-div_iff_mul-le low).1 (omega arith))

-- what the shear asks of the layers of an accepted section
pub stress-in : {x : Design} {n : ℕ} (ls : List Layer) → Usable x n ls → (u : ℕ) → StressBounds x.b x.m.fck (As u ls) (dm u ls)
stress-in ls w u =
    let c = counts ls w in
    record { b-high = w.bounded.b-high; fck_high = w.bounded.materials.fck_high; As-high = As-high ls c u; dm-high = dm-high ls c u }

-- ---- r and q are the greatest of all numbers that pass: of every layers of an accepted section, at every depth with a tension layer

module _ {x : Design} {n : ℕ} (ls : List Layer) (w : Usable x n ls) (u : ℕ) where
  pub r-greatest : 1 ≤ As u ls → IsGreatest (r_test x.b x.m.fck (As u ls) (dm u ls)) (r x.b x.m.fck (As u ls) (dm u ls))
  r-greatest some =
      let mean = mean-low x.h (tension_layers u ls) (all_tension u (depth_ok x.h) ls w.depths) some in
      let b : 1 ≤ x.b = omega (arith, w.bounded.b-low) in
      roots.r-greatest x.b x.m.fck (As u ls) (dm u ls) (stress-in ls w u) (mul-le-mul b mean)

  pub q-greatest : IsGreatest (q_test x.m.fck (K (dm u ls))) (q x.m.fck (K (dm u ls)))
  q-greatest = roots.q-greatest x.m.fck (K (dm u ls)) w.bounded.materials.fck_high (K-high (dm u ls))

-- As is 0 only where no layer is in tension
pub no_tension : {x : Design} {n : ℕ} (ls : List Layer) → Usable x n ls → (u : ℕ) → As u ls ≡ 0 → tension_layers u ls ≡ []
no_tension ls w u z = layers.no_tension u ls w.areas z

-- under N 0 some layer is in tension: where none is, every layer and the concrete press
pressed : (u : ℕ) (ls : List Layer) → tension_layers u ls ≡ [] → Pressed u ls
unfolding tension_layers Pressed
pressed u [] e = tt
pressed u (l ∷ ls) e = go (in_tension u l) refl (pressed u ls) e
  where
    go : (t : Bool) → in_tension u l ≡ t → (tension_layers u ls ≡ [] → Pressed u ls) → cond t (l ∷ tension_layers u ls) (tension_layers u ls) ≡ []
        → (10 * l.depth ≤ u) × Pressed u ls
    go true f rest g = absurd (omega (arith, ap (λ (ts : List Layer). length ts) g))
    go false f rest g = (ltb-false _ _ f, rest g)

tension_under_none : {x : Design} {n : ℕ} (ls : List Layer) → Usable x n ls → (u : ℕ) → DepthPromise x ls (pos 0) u → 1 ≤ As u ls
tension_under_none {x} ls w u d = go (dec_le 1 (As u ls))
  where
    -- under N 0 the depth is up to 10h
    up_to : u ≤ 10 * x.h
    up_to = by_order u (10 * x.h) (λ h. h) (λ h. absurd (clash (none_over ls w) (d.over h)))

    go : Dec (1 ≤ As u ls) → 1 ≤ As u ls
    go (yes h) = h
    go (no n) =
        let none : As u ls ≡ 0 = omega arith in
        let carried : carries x ls (pos 0) u ≡ true = unfold carries in holds-true (tested _ _) (d.accurate up_to).here in
        absurd (not_pressed x u ls w.bounded d.depth.low (pressed u ls (no_tension ls w u none)) carried)

-- so links of an accepted section always have tension layers beside them: 29 leaves them N 0 alone
module _ (s : Section) (load : Load) where
  area_some : (x : Design) (t b : ℕ) → Under s load x t b → absent (links_of s) ≡ false → 1 ≤ (report_with s load x t b).area
  unfolding report_at report_of
  area_some x t b w h = go (le_z (pos 0) load.m)
    where
      at_none : {ls : List Layer} {u : ℕ} → DepthPromise x ls load.n u → DepthPromise x ls (pos 0) u
      at_none {ls} {u} d = subst (λ (N : ℤ). DepthPromise x ls N u) (w.links.no_axial h) d

      go : (z : Bool)
          → 1 ≤ As (cond z (face_at x (layers_of s) t) (face_at x (turned x.h (layers_of s)) b)).u (cond z (layers_of s) (turned x.h (layers_of s)))
      go true = tension_under_none (layers_of s) w.usable t (at_none w.top)
      go false = tension_under_none (turned x.h (layers_of s)) (usable_turned (layers_of s) w.usable) b (at_none w.bottom)

  pub links-reached : OfReport (λ x r. absent (links_of s) ≡ false → 1 ≤ r.area) (accepted (counted s)) (check_of s load)
  links-reached = of_report s load (λ x r. absent (links_of s) ≡ false → 1 ≤ r.area) area_some

-- ---- a section compressed over its full height

-- beyond 10h no layer is in tension
none_in_tension : (h u : ℕ) (ls : List Layer) → 10 * h < u → every (depth_ok h) ls ≡ true → tension_layers u ls ≡ []
unfolding tension_layers
none_in_tension h u [] m e = refl
none_in_tension h u (l ∷ ls) m e =
    let t = both_true (depth_ok h l) (every (depth_ok h) ls) e in
    rw (le-ltb u (10 * l.depth) (omega (arith, layer-high h l t.0))) (none_in_tension h u ls m t.1)

-- so of a report with no tension layer
no_tension_report : (x : Design) (ls : List Layer) (k : Links) (load : Load) (face other : Face) (moment : Verdict) → tension_layers face.u ls ≡ []
    → Unreached (report_of x ls k load face other moment)
unfolding report_of VRdc linked_report total mean_depth
no_tension_report x ls k load face other moment e =
    rw (e, and_no (not (absent k))) (record {
      area = refl;
      dm = refl;
      vrd = refl;
      cotangent = refl;
      resistance = refl;
      depth = refl;
      shear = refl;
      least = refl;
      links = refl;
    })

-- of two faces, that of the face compressed
of_face : (x : Design) (ls below : List Layer) (k : Links) (load : Load) (t b : ℕ) (z : Bool) (moment : Verdict)
    → every (depth_ok x.h) ls ≡ true → every (depth_ok x.h) below ≡ true →
    let face : Face = cond z (face_at x ls t) (face_at x below b) in
    let report : Report = report_of x (cond z ls below) k load face (cond z (face_at x below b) (face_at x ls t)) moment in
    10 * x.h < report.u → Unreached report
unfolding report_of
of_face x ls below k load t b true moment d e h =
    no_tension_report x ls k load (face_at x ls t) (face_at x below b) moment (none_in_tension x.h t ls h d)
of_face x ls below k load t b false moment d e h =
    no_tension_report x below k load (face_at x below b) (face_at x ls t) moment (none_in_tension x.h b below h e)

-- and of Check's, where that face lies beyond 10h
module _ (s : Section) (load : Load) where
  report_unreached : (x : Design) (t b : ℕ) → Under s load x t b → 10 * x.h < (report_with s load x t b).u → Unreached (report_with s load x t b)
  unfolding report_at
  report_unreached x t b w =
      of_face x (layers_of s) (turned x.h (layers_of s)) (links_of s) load t b (le_z (pos 0) load.m) _ w.usable.depths
      (usable_turned (layers_of s) w.usable).depths

  pub beyond_unreached : OfReport (λ x r. 10 * x.h < r.u → Unreached r) (accepted (counted s)) (check_of s load)
  beyond_unreached = of_report s load (λ x r. 10 * x.h < r.u → Unreached r) report_unreached

-- verdict one has no M to pass where MRd of the top is below −MRd of the bottom
pub none_between : (M top bottom : ℤ) → top <ℤ neg_ℤ bottom → first M top bottom ≡ Fail
none_between M top bottom h = go (le_z M top) (le_z (neg_ℤ bottom) M) refl refl
  where
    go : (t b : Bool) → le_z M top ≡ t → le_z (neg_ℤ bottom) M ≡ b → judged (t && b) ≡ Fail
    go false b e f = refl
    go true false e f = refl
    go true true e f =
        let high = le? (# M) (# top) (le-true M top e) in
        let low = le? (⊖ (# bottom)) (# M) (le-true (neg_ℤ bottom) M f) in
        absurd (omega (arith, high, low, lt? (# top) (⊖ (# bottom)) h))

-- places beyond the count, and numbers of absent links: sections that differ only there have one answer
pub beyond_check : (s t : Section) (load : Load) → counted s ≡ counted t → links_of s ≡ links_of t → check_of s load ≡ check_of t load
beyond_check s t load e f = λ i. check_in (e i) (f i) load
