-- The sequence of the layers makes no difference to Check: document 02, ticket 2. Assumes nothing.
use Prim.Native.Nat.{ℕ}
use mathlib.Core.Bool.{true, false, Bool, cond}
use mathlib.Core.List.{List, ◌++◌}
use mathlib.Core.Path.{◌≡◌, refl, ap}
use lib.IntN.{pos}
use lib.Signed.{le_z}
use Rattle.std.specs.Prelude.{Option, Result, Ok, Err}
use Rattle.arith.specs.Rearranged.{Rearranged}
use Rattle.refusals.specs.declared.Refusal.{Refusal}
use Rattle.section.specs.declared.Layer.{Layer}
use Rattle.section.specs.declared.Links.{Links}
use Rattle.section.specs.declared.Load.{Load}
use Rattle.section.specs.declared.Design.{Design}
use Rattle.section.specs.Section.{Counted}
use Rattle.section.specs.Refusals.{load_link_tests}
use Rattle.section.specs.Rearranged.{SameBars}
use Rattle.section.specs.Turned.{turned}
use Rattle.section.proofs.Rearranged.{turned_same, call_same}
use Rattle.equilibrium.specs.Depth.{face_depth}
use Rattle.equilibrium.proofs.Rearranged.{carries_same, reaches_same, face_same, resistance_same}
use Rattle.verdicts.specs.declared.Verdict.{Verdict}
use Rattle.verdicts.proofs.Areas.{area_same}
use Rattle.verdicts.proofs.Rearranged.{As-same, dm_same}
use Rattle.clauses.specs.declared.Face.{Face}
use Rattle.clauses.specs.Compressed.{of_compressed}
use Rattle.clauses.specs.Refusals.{faces_tests, faces_tests_of}
use Rattle.clauses.specs.Check.{report_of, report_at, reported, check_in}

-- the face compressed sees a rearrangement where both faces do
compressed_same : (t : Bool) {xs ys xs' ys' : List Layer} → Rearranged xs ys → Rearranged xs' ys' → Rearranged (cond t xs xs') (cond t ys ys')
compressed_same true top bottom = top
compressed_same false top bottom = bottom

-- what is reported of the face compressed
report_of_lem : (x : Design) (k : Links) (load : Load) {xs ys : List Layer} → Rearranged xs ys → (face other : Face) (moment : Verdict)
    → report_of x xs k load face other moment ≡ report_of x ys k load face other moment
unfolding report_of
report_of_lem x k load same face other moment = rw (As-same same face.u, dm_same same face.u, area_same same)

-- both faces, which see the layers as xs and xs', or as their rearrangements
module _ (x : Design) (load : Load) {xs ys xs' ys' : List Layer} (top : Rearranged xs ys) (bottom : Rearranged xs' ys') where
  compressed : Rearranged (of_compressed load.m xs xs') (of_compressed load.m ys ys')
  compressed = compressed_same (le_z (pos 0) load.m) top bottom

  faces_asks : faces_tests x xs xs' load ≡ faces_tests x ys ys' load
  faces_asks = rw (carries_same x compressed load.n, reaches_same x top load.n, reaches_same x bottom load.n)

  report-at : (k : Links) (t b : ℕ) → report_at x k load xs xs' t b ≡ report_at x k load ys ys' t b
  unfolding report_at
  report-at k t b = rw (resistance_same x top t, resistance_same x bottom b) (report_of_lem x k load compressed _ _ _)

  reported_same : (k : Links) → reported xs xs' k load x ≡ reported ys ys' k load x
  reported_same k =
      rw (face_same x top load.n, face_same x bottom load.n) (report-at k (face_depth ys load.n x) (face_depth ys' load.n x))

module _ {c d : Counted} (same : SameBars c d) (load : Load) where
  abbrev asks : Links → Counted → Result Design Refusal → List (Option Refusal)
  asks k e a = load_link_tests k load ++ faces_tests_of a e.layers load

  asks_same : (k : Links) (a : Result Design Refusal) → asks k c a ≡ asks k d a
  asks_same k (Ok x) = ap (λ (ks : List (Option Refusal)). load_link_tests k load ++ ks) (faces_asks x load same.layers (turned_same x.h same.layers))
  asks_same k (Err j) = refl

  -- with the same links
  pub check_same : {j k : Links} → j ≡ k → check_in c j load ≡ check_in d k load
  unfolding check_in
  check_same {k = k} links =
      rw links
      (call_same same (λ e x. reported e.layers (turned x.h e.layers) k load x) (asks k)
      (λ x. reported_same x load same.layers (turned_same x.h same.layers) k) (asks_same k))
