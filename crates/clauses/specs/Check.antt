-- Check: document 01, "Verdicts", with both faces of 02's ticket 1, the links of its ticket 3 and the depths beyond 10h of its ticket 11.
-- Assumes nothing.
use Rattle.std.specs.Prelude.{ℕ, List, [], ◌∷◌, pos, replicate, Result, Ok, Err}
use Rattle.refusals.specs.Chain.{first_failing}
use Rattle.refusals.specs.Number as refusals
use Rattle.refusals.specs.declared.Refusal.{Refusal}
use Rattle.section.specs.declared.Layer.{Layer}
use Rattle.section.specs.declared.Section.{Section}
use Rattle.section.specs.declared.Links.{Links}
use Rattle.section.specs.declared.Load.{Load}
use Rattle.section.specs.declared.Design.{Design}
use Rattle.section.specs.Section.{Counted, counted, links_of}
use Rattle.section.specs.Refusals.{accepted, answer}
use Rattle.section.specs.Turned.{turned}
use Rattle.equilibrium.specs.Depth.{face_depth}
use Rattle.equilibrium.specs.Moment.{resistance_at}
use Rattle.shear.specs.Shear.{VRdc}
use Rattle.clauses.specs.declared.Face.{Face}
use Rattle.clauses.specs.declared.Listed.{Listed}
use Rattle.clauses.specs.declared.Report.{Report}
use Rattle.verdicts.specs.declared.Verdict.{Verdict}
use Rattle.clauses.specs.declared.linked.LinkReport.{LinkReport}
use Rattle.verdicts.specs.Tension.{area_of, As, dm}
use Rattle.clauses.specs.Compressed.{of_compressed, of_other}
use Rattle.clauses.specs.Refusals.{faces_tests, check_tests}
use Rattle.verdicts.specs.Verdicts.{number_of, first, second, third, fourth, fifth}
use Rattle.clauses.specs.Linked.{linked_report}

-- u and MRd of the face that M compresses and of the other, VRd,c, dm, As, the links' cotangent and resistance, and the six verdicts, with
-- the layers as the compressed face sees them
module _ (x : Design) (ls : List Layer) (k : Links) (load : Load) (face other : Face) (moment : Verdict) where
  abbrev area : ℕ
  area = As face.u ls

  abbrev mean : ℕ
  mean = dm face.u ls

  abbrev vrd : ℕ
  vrd = VRdc record { b = x.b; h = x.h; fck = x.m.fck; g = x.m.g; crd = x.m.crd; N = load.n; As = area; dm = mean }

  abbrev linked : LinkReport
  linked = linked_report x k load.v area mean

  unfoldable pub report_of : Report
  report_of =
      record {
        u = face.u;
        mrd = face.mrd;
        other = other;
        vrd = vrd;
        dm = mean;
        area = area;
        cotangent = linked.cotangent;
        resistance = linked.resistance;
        moment = moment;
        depth = second x.m.fck face.u area mean;
        shear = third load.v vrd area;
        least = fourth x.m.t x.m.fyk x.b area mean;
        most = fifth (area_of ls) x.b x.h;
        links = linked.verdict;
      }

-- a face that sees the layers as ls, at the depth u
abbrev pub face_at : Design → List Layer → ℕ → Face
face_at x ls u = record { u = u; mrd = resistance_at x ls u }

-- of both faces, which see the layers as `top` and `bottom`, at the depths t and b
unfoldable pub report_at : Design → Links → Load → List Layer → List Layer → ℕ → ℕ → Report
report_at x k load top bottom t b =
    report_of x
    (of_compressed load.m top bottom)
    k
    load
    (of_compressed load.m (face_at x top t) (face_at x bottom b))
    (of_other load.m (face_at x top t) (face_at x bottom b))
    (first load.m (resistance_at x top t) (resistance_at x bottom b))

-- the report, each face at the depth that it has under N, up to 10h or beyond it
abbrev pub reported : List Layer → List Layer → Links → Load → Design → Report
reported top bottom k load x = report_at x k load top bottom (face_depth top load.n x) (face_depth bottom load.n x)

-- 11, 12 or the report, for both faces of an accepted section, whose load and links passed their tests
unfoldable pub check_faces : Design → List Layer → List Layer → Links → Load → Result Report Refusal
check_faces x top bottom k load = answer (reported top bottom k load) (first_failing (faces_tests x top bottom load)) (Ok x)

-- Check: the top sees the layers as they are, the bottom sees them turned over
unfoldable pub check_in : Counted → Links → Load → Result Report Refusal
check_in c k load =
    answer (λ x. reported c.layers (turned x.h c.layers) k load x) (first_failing (check_tests c k load)) (accepted c)

abbrev pub check_of : Section → Load → Result Report Refusal
check_of s load = check_in (counted s) (links_of s) load

-- a statement about what is reported of an accepted section; and only an accepted section has a report
module _ (P : Design → Report → Type 0) where
  abbrev pub OfReport : Result Design Refusal → Result Report Refusal → Type 0
  OfReport (Ok x) (Ok r) = P x r
  OfReport (Err j) (Ok r) = ⊥
  OfReport a (Err j) = Unit {0}

-- ---- the paper's number and values for each case of the answer: the refusal, 0 for none, u and MRd of both faces, VRd,c, dm, As, the links'
-- cotangent and resistance, and the verdicts in the documents' sequence; a refusal has zeros and a 2 for each verdict
abbrev pub refused_listed : ℕ → Listed
refused_listed k =
    record {
      refusal = k;
      u = 0;
      mrd = pos 0;
      other = record { u = 0; mrd = pos 0 };
      vrd = 0;
      dm = 0;
      area = 0;
      cotangent = 0;
      resistance = 0;
      verdicts = replicate 6 2;
    }

abbrev pub listed : Result Report Refusal → Listed
listed (Err j) = refused_listed (refusals.number_of j)
listed (Ok r) =
    record {
      refusal = 0;
      u = r.u;
      mrd = r.mrd;
      other = r.other;
      vrd = r.vrd;
      dm = r.dm;
      area = r.area;
      cotangent = r.cotangent;
      resistance = r.resistance;
      verdicts =
          number_of r.moment ∷ number_of r.depth ∷ number_of r.shear ∷ number_of r.least ∷ number_of r.most ∷ number_of r.links ∷ [];
    }
