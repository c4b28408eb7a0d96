-- The accuracy statement, demand 3 of document 01 and 02's ticket 1, of Check; by ticket 11 it "keeps to depths up to 10h", each face for
-- itself. Assumes nothing.
use Rattle.std.specs.Prelude.{◌*◌, ◌≤◌, cond, List, ◌≡◌, ℤ, pos, Result}
use Rattle.std.specs.Int.Signed.{le_z}
use Rattle.refusals.specs.declared.Refusal.{Refusal}
use Rattle.section.specs.declared.Layer.{Layer}
use Rattle.section.specs.declared.Load.{Load}
use Rattle.section.specs.declared.Design.{Design}
use Rattle.section.specs.Section.{Counted}
use Rattle.section.specs.Refusals.{accepted}
use Rattle.section.specs.Turned.{turned}
use Rattle.equilibrium.specs.Accuracy.{Accurate}
use Rattle.clauses.specs.declared.Face.{Face}
use Rattle.clauses.specs.declared.Report.{Report}
use Rattle.verdicts.specs.Verdicts.{first}
use Rattle.clauses.specs.Check.{OfReport}

-- the face that a report shows
abbrev pub shown : Report → Face
shown r = record { u = r.u; mrd = r.mrd }

-- its top and its bottom: for M ≥ 0 the top is shown and the bottom is the other face, for M < 0 it is the other way round
abbrev pub top_of : ℤ → Report → Face
top_of M r = cond (le_z (pos 0) M) (shown r) r.other

abbrev pub bottom_of : ℤ → Report → Face
bottom_of M r = cond (le_z (pos 0) M) r.other (shown r)

-- a face that sees the layers as ls, under N: its depth, where it is up to 10h, is accurate with its resistance
abbrev pub AccurateFace : Design → List Layer → ℤ → Face → Type 0
AccurateFace x ls N face = face.u ≤ 10 * x.h → Accurate x ls N face.u face.mrd

-- The depth of each face, where it is up to 10h, is accurate, with the resistance that verdict one takes for it.
pub record AccurateFaces (x : Design) (ls : List Layer) (load : Load) (r : Report) : Type 0 where
  pub top : AccurateFace x ls load.n (top_of load.m r)
  pub bottom : AccurateFace x (turned x.h ls) load.n (bottom_of load.m r)
  pub taken : r.moment ≡ first load.m (top_of load.m r).mrd (bottom_of load.m r).mrd

-- of Check
abbrev pub AccurateCheck : Counted → Load → Result Report Refusal → Type 0
AccurateCheck c load r = OfReport (λ x. AccurateFaces x c.layers load) (accepted c) r
