-- What Check answers, whatever the section and the load: each number fits the machine's. Assumes nothing.
use Prim.Native.Nat.{ℕ, ◌^◌, ◌≤◌, ◌<◌}
use mathlib.Core.Bool.{Bool, true, false, cond}
use mathlib.Core.List.{List}
use mathlib.Core.Path.{◌≡◌, refl, sym}
use native.Mathlib.Nat.{le_trans}
use native.Mathlib.Omega.{arith}
use lib.Dec.{leb, lit<, lit≤}
use lib.IntN.{ℤ, pos, negsuc, nat_abs, ◌+ℤ◌}
use lib.Signed.{le_z}
use Rattle.std.specs.Prelude.{Option, None, Some, Result, Ok, Err}
use Rattle.refusals.specs.declared.Refusal.{Refusal}
use Rattle.refusals.specs.Chain.{first_failing}
use Rattle.refusals.specs.Number as refusals
use Rattle.refusals.proofs.Number.{number_small}
use Rattle.arith.proofs.Bound.{abs-add}
use Rattle.arith.specs.Integer.{Within}
use Rattle.section.specs.declared.Layer.{Layer}
use Rattle.section.specs.declared.Section.{Section}
use Rattle.section.specs.declared.Links.{Links}
use Rattle.section.specs.declared.Load.{Load}
use Rattle.section.specs.declared.Design.{Design}
use Rattle.section.specs.Section.{layers_of, counted, links_of}
use Rattle.section.specs.Refusals.{accepted, load_link_tests}
use Rattle.section.specs.Code.Usable.{Usable, LoadOk}
use Rattle.section.specs.Turned.{turned}
use Rattle.equilibrium.specs.Moment.{resistance_at}
use Rattle.equilibrium.specs.Code.Whole.{DepthRange}
use Rattle.section.proofs.Usable.{usable_by, load-links-ok}
use Rattle.section.proofs.Turned.{usable_turned}
use Rattle.equilibrium.proofs.Range.{range_most, resistance_in}
use Rattle.shear.specs.Shear.{Sheared, concrete_share, axial_share, or_zero, VRdc}
use Rattle.shear.specs.Code.Ranges.{ShearBounds}
use Rattle.shear.specs.Shear as shear
use Rattle.shear.proofs.Roots.{concrete-high, c-in, axial-in}
use Rattle.clauses.specs.declared.Face.{Face}
use Rattle.verdicts.specs.declared.Verdict.{Verdict}
use Rattle.verdicts.specs.declared.Verdict.TheVariants.{Pass, Fail, NotReached}
use Rattle.verdicts.specs.Verdicts.{number_of, first, second, third, fourth, fifth, sixth}
use Rattle.clauses.specs.Linked.{truss_of, reaches_links, link_report, no_link_report, linked_report}
use Rattle.verdicts.specs.Tension.{area_of, As, dm}
use Rattle.clauses.specs.Check.{refused_listed, listed, face_at, report_of, report_at, check_faces, check_of}
use Rattle.verdicts.proofs.Layers.{counts, As-high, dm-high}
use Rattle.clauses.proofs.Laws.{stress-in}
use Rattle.clauses.proofs.Checking.{check_refused, load_refused, load_passed, faces_cases}
use Rattle.listing.proofs.Longest.{Fitting}

-- ---- the answer of Check

refused_fits : (k : ℕ) → k < 256 → Fitting (refused_listed k)
refused_fits k h =
    record {
      refusal = omega arith;
      u = omega arith;
      mrd = omega arith;
      vrd = omega arith;
      dm = omega arith;
      area = omega arith;
      count = refl;
      verdicts = (lit< tt, (lit< tt, (lit< tt, (lit< tt, (lit< tt, (lit< tt, tt))))));
    }

-- VRd,c
or_zero-most : (z : ℤ) → or_zero z ≤ nat_abs z
or_zero-most (pos n) = omega arith
or_zero-most (negsuc n) = omega arith

module _ (x : Sheared) (w : ShearBounds x) where
  abbrev concrete : ℕ
  concrete = concrete_share x.crd x.b x.fck x.As x.dm

  abbrev axial : ℤ
  axial = axial_share (shear.c x.N x.g x.b x.h) x.dm x.h

  shear_most : VRdc x < 2 ^ 64
  unfolding VRdc
  shear_most = go (leb 1 x.As)
    where
      go : (t : Bool) → cond t (or_zero (pos concrete +ℤ axial)) 0 < 2 ^ 64
      go false = lit< tt
      go true =
          let a = axial-in x.h (le_trans (lit≤ tt) w.h-low) (c-in w.N-in w.g-high w.stress.b-high w.h-high) w.stress.dm-high in
          omega (arith, or_zero-most (pos concrete +ℤ axial), abs-add (pos concrete) axial, concrete-high w.crd-high w.stress)

-- a verdict's number is one digit
digit_of : (v : Verdict) → number_of v < 10
digit_of Pass = lit< tt
digit_of Fail = lit< tt
digit_of NotReached = lit< tt

-- the sixth too
sixth-digit : (x : Design) (k : Links) (v : ℤ) (As dm : ℕ) → number_of (linked_report x k v As dm).verdict < 10
unfolding linked_report
sixth-digit x k v As dm = go (reaches_links k As)
  where
    go : (t : Bool) → number_of (cond t (link_report (truss_of x k dm) v) no_link_report).verdict < 10
    go true = digit_of (sixth (truss_of x k dm) v)
    go false = lit< tt

-- what is reported of a face, whose layers are ls
report-fits : {x : Design} {count : ℕ} (ls : List Layer) (k : Links) (l : Load) (face other : Face) (v : Verdict) → Usable x count ls → LoadOk l
    → DepthRange x face.u → Within face.mrd 7000000000000000000 → Fitting (listed (Ok (report_of x ls k l face other v)))
unfolding report_of
report-fits {x} ls k l face other v w ok d m =
    let u = face.u in
    let n = counts ls w in
    let b = w.bounded in
    let area = As u ls in
    let mean = dm u ls in
    let stress = stress-in ls w u in
    record {
      refusal = omega arith;
      u = omega (arith, range_most b d);
      mrd = omega (arith, m.within);
      vrd = shear_most _ (record {
        stress = stress;
        h-low = b.h-low;
        h-high = b.h-high;
        g-high = b.materials.g-high;
        crd-high = b.materials.crd-high;
        N-in = ok.n_in;
      });
      dm = omega (arith, dm-high ls n u);
      area = omega (arith, As-high ls n u);
      count = refl;
      verdicts = (
        digit_of v,
        (
          digit_of (second x.m.fck u area mean),
          (
            digit_of (third l.v (VRdc record { b = x.b; h = x.h; fck = x.m.fck; g = x.m.g; crd = x.m.crd; N = l.n; As = area; dm = mean }) area),
            (
              digit_of (fourth x.m.t x.m.fyk x.b area mean),
              (digit_of (fifth (area_of ls) x.b x.h), (sixth-digit x k l.v area mean, tt)),
            ),
          ),
        ),
      );
    }

module _ {x : Design} {count : ℕ} (ls : List Layer) (k : Links) (l : Load) (w : Usable x count ls) (ok : LoadOk l) where
  abbrev below : List Layer
  below = turned x.h ls

  -- whichever face M compresses
  either-fits : (t b : ℕ) → DepthRange x t → DepthRange x b → Fitting (listed (Ok (report_at x k l ls below t b)))
  unfolding report_at
  either-fits t b d e = go (le_z (pos 0) l.m)
    where
      go : (z : Bool) → Fitting (listed (Ok (report_of x (cond z ls below) k l (cond z (face_at x ls t) (face_at x below b))
          (cond z (face_at x below b) (face_at x ls t)) (first l.m (resistance_at x ls t) (resistance_at x below b)))))
      go true = report-fits ls k l _ _ _ w ok d (resistance_in w d)
      go false = report-fits below k l _ _ _ (usable_turned ls w) ok e (resistance_in (usable_turned ls w) e)

  faces_fit : Fitting (listed (check_faces x ls below k l))
  faces_fit =
      faces_cases ls k l w (λ r. Fitting (listed r)) (refused_fits 11 (lit< tt)) (refused_fits 12 (lit< tt))
      (λ t b p q. either-fits t b p.depth q.depth)

-- a refusal has at most three digits
err_fits : (r : Refusal) → Fitting (refused_listed (refusals.number_of r))
err_fits r = refused_fits (refusals.number_of r) (number_small r)

pub check_fits : (s : Section) (l : Load) → Fitting (listed (check_of s l))
check_fits s l = go (accepted (counted s)) refl
  where
    under : {x : Design} (k : Option Refusal) → first_failing (load_link_tests (links_of s) l) ≡ k → accepted (counted s) ≡ Ok x
        → Fitting (listed (check_of s l))
    under None none e =
        rw (← load_passed (counted s) (links_of s) l e none)
        (faces_fit (layers_of s) (links_of s) l (usable_by s e) (load-links-ok (links_of s) l none).load)
    under (Some r) some e = rw (← load_refused (counted s) (links_of s) l e (sym some)) (err_fits r)

    go : (a : Result Design Refusal) → accepted (counted s) ≡ a → Fitting (listed (check_of s l))
    go (Err r) e = rw (← check_refused (counted s) (links_of s) l e) (err_fits r)
    go (Ok x) e = under (first_failing (load_link_tests (links_of s) l)) refl e
