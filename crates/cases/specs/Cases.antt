-- Worked cases; that they hold, one computed test over the definitions, is `cases_hold`, `depths_hold`, `checks_hold` and `layers_hold` of
-- the proofs.
-- Every case of document 01 that is marked (P) has its rows here, in 01's order, those of Find a depth and of Check in lists of their own.
-- Beside them stand the example of 01's list, the refusals 11 and 12 also as Check gives them, every class of the table with the letters
-- that follow from it, and both ends of the steel's range with what lies beyond; at the end, the cases of 02's requests 1, 3, 8, 10, 6,
-- 11, 12, 2 and 9, with numbers of the paper or of the second implementation. Assumes nothing.
use Rattle.std.specs.Prelude.{ℕ, ◌-◌, ◌/◌, ◌%◌, ◌^◌, List, [], ◌∷◌, ◌++◌, ℤ, pos, neg_ℤ, replicate}
use Rattle.materials.specs.declared.Grade.{Grade}
use Rattle.section.specs.declared.Layer.{Layer}
use Rattle.section.specs.declared.Section.{Section}
use Rattle.section.specs.declared.Load.{Load}
use Rattle.section.specs.Section.{no_layer, no_links, links_with}
use Rattle.links.specs.declared.Truss.{Truss}
use Rattle.clauses.specs.declared.Face.{Face}
use Rattle.clauses.specs.declared.Listed.{Listed}
use Rattle.clauses.specs.Check.{refused_listed}
use Rattle.cases.specs.Case.{Case, Case.material, Case.no_material, Case.tests, Case.force, Case.turned_force, Case.force_beyond, Case.resists}
use Rattle.cases.specs.Case.{Case.turned_steel, Case.size_factor, Case.shear_numbers, Case.link_tested, Case.written, Case.read, Case.read_layers, Case.struts}
use Rattle.cases.specs.Case.{DepthRow, CheckRow, LayerRow, with_links}

-- the situation, αcc, fck and fyk
abbrev grade_with : ℤ → ℤ → ℕ → ℕ → Grade
grade_with situation alphacc fck fyk = record { fck = pos fck; fyk = pos fyk; situation = situation; alphacc = alphacc }

-- persistent, with αcc 1.00
abbrev grade : ℕ → ℕ → Grade
grade fck fyk = grade_with (pos 1) (pos 100) fck fyk

-- a row with the situation, crd, αcc, fck and fyk; then T, E, D, L, f, g and s
abbrev letters_in : ℕ → ℕ → ℕ → ℕ → ℕ → ℕ → ℕ → ℕ → ℕ → ℕ → ℕ → ℕ → Case
letters_in situation crd alphacc fck fyk t e d l f g s =
    material (grade_with (pos situation) (pos alphacc) fck fyk)
    record { fck = fck; fyk = fyk; t = t; e = e; d = d; l = l; f = f; g = g; s = s; crd = crd }

-- persistent, with 100·CRd,c 12, and accidental, with 15
abbrev letters_with : ℕ → ℕ → ℕ → ℕ → ℕ → ℕ → ℕ → ℕ → ℕ → ℕ → Case
letters_with alphacc fck fyk t e d l f g s = letters_in 1 12 alphacc fck fyk t e d l f g s

abbrev accidental_letters_with : ℕ → ℕ → ℕ → ℕ → ℕ → ℕ → ℕ → ℕ → ℕ → ℕ → Case
accidental_letters_with alphacc fck fyk t e d l f g s = letters_in 2 15 alphacc fck fyk t e d l f g s

-- both with αcc 1.00
abbrev letters : ℕ → ℕ → ℕ → ℕ → ℕ → ℕ → ℕ → ℕ → ℕ → Case
letters fck fyk t e d l f g s = letters_with 100 fck fyk t e d l f g s

abbrev accidental_letters : ℕ → ℕ → ℕ → ℕ → ℕ → ℕ → ℕ → ℕ → ℕ → Case
accidental_letters fck fyk t e d l f g s = accidental_letters_with 100 fck fyk t e d l f g s

-- bars at a depth, of an area; and a section of this grade, width and height, of whose sixteen places so many are counted
abbrev bars : ℕ → ℕ → Layer
bars depth area = record { depth = depth; area = area }

abbrev layered : Grade → ℕ → ℕ → ℕ → List Layer → Section
layered grade b h count places =
    record { width = pos b; height = pos h; grade = grade; links = no_links; count = count; layers = places }

-- a section with one layer of 1,500 mm², or as many of its places as are counted
abbrev one_in : Grade → ℕ → ℕ → ℕ → ℕ → Section
one_in grade count b h d = layered grade b h count (bars d 1500 ∷ replicate 15 no_layer)

-- persistent, with fyk 500 and that layer
abbrev one : ℕ → ℕ → ℕ → ℕ → Section
one b h fck d = one_in (grade fck 500) 1 b h d

-- section A: 300 by 500, fck 30, fyk 500, one layer of 1,500 at 450
abbrev A : Section
A = one 300 500 30 450

-- A turned over by hand: the layer at 50
abbrev over_a : Section
over_a = one 300 500 30 50

-- the same with fyk 600
abbrev hump : Section
hump = one_in (grade 30 600) 1 300 500 50

-- 300 by 300, fck 30, fyk 500, three layers; and 50 by 500, fck 12, fyk 600, accidental, two layers
abbrev column : Section
column = layered (grade 30 500) 300 300 3 (bars 50 628 ∷ bars 150 402 ∷ bars 250 628 ∷ replicate 13 no_layer)

abbrev mixed : Section
mixed = layered (grade_with (pos 2) (pos 100) 12 600) 50 500 2 (bars 150 20000 ∷ bars 450 100 ∷ replicate 14 no_layer)

-- the least height, 75 by 50, fck 90, fyk 463, two layers; and the greatest, 300 by 2,000, fck 30, fyk 500, one layer of 1,500 at 1,950
abbrev low : Section
low = layered (grade 90 463) 75 50 2 (bars 7 37 ∷ bars 43 111 ∷ replicate 14 no_layer)

abbrev high : Section
high = one 300 2000 30 1950

-- 300 by 500, fck 30, fyk 500, three layers in this sequence; then the same three from the top, from the bottom, and neither
abbrev typed : Layer → Layer → Layer → Section
typed k l m = layered (grade 30 500) 300 500 3 (k ∷ l ∷ m ∷ replicate 13 no_layer)

abbrev pub from_top : Section
from_top = typed (bars 50 402) (bars 400 628) (bars 450 942)

abbrev pub from_bottom : Section
from_bottom = typed (bars 450 942) (bars 400 628) (bars 50 402)

abbrev from_middle : Section
from_middle = typed (bars 400 628) (bars 50 402) (bars 450 942)

-- A in a situation, with αcc, fyk and a count
abbrev AWith : ℤ → ℤ → ℕ → ℕ → Section
AWith situation alphacc fyk count = one_in (grade_with situation alphacc 30 fyk) count 300 500 450

-- A in the accidental situation
abbrev accidental_a : Section
accidental_a = AWith (pos 2) (pos 100) 500 1

-- A with αcc 0.85, and in the accidental situation
abbrev reduced_a : Section
reduced_a = AWith (pos 1) (pos 85) 500 1

abbrev accidental_reduced_a : Section
accidental_reduced_a = AWith (pos 2) (pos 85) 500 1

abbrev load : ℤ → ℤ → ℤ → Load
load n m v = record { n = n; m = m; v = v }

-- M 200,000,000 and V 80,000, under which the example of 01's list stands
abbrev load_a : Load
load_a = load (pos 0) (pos 200000000) (pos 80000)

-- 50 by 50, fck 25, fyk 400, one layer of 1,500 at 1
abbrev B : Section
B = one_in (grade 25 400) 1 50 50 1

-- u and MRd of a face
abbrev face : ℕ → ℤ → Face
face u mrd = record { u = u; mrd = mrd }

-- the face that M compresses, the other, VRd,c, dm, As, the links' cotangent and resistance and the verdicts of a call that is not refused
abbrev linked_line : Face → Face → ℕ → ℕ → ℕ → ℕ → ℕ → List ℕ → Listed
linked_line f o vrd dm area cotangent resistance verdicts =
    record {
      refusal = 0;
      u = f.u;
      mrd = f.mrd;
      other = o;
      vrd = vrd;
      dm = dm;
      area = area;
      cotangent = cotangent;
      resistance = resistance;
      verdicts = verdicts;
    }

-- the bytes of b, h, fck and fyk of A, and what follows them
abbrev sizes_a : List ℕ → List ℕ
sizes_a rest =
    0 ∷ 0 ∷ 0 ∷ 0 ∷ 0 ∷ 0 ∷ 1 ∷ 44
    ∷ 0 ∷ 0 ∷ 0 ∷ 0 ∷ 0 ∷ 0 ∷ 1 ∷ 244
    ∷ 0 ∷ 0 ∷ 0 ∷ 0 ∷ 0 ∷ 0 ∷ 0 ∷ 30
    ∷ 0 ∷ 0 ∷ 0 ∷ 0 ∷ 0 ∷ 0 ∷ 1 ∷ 244
    ∷ rest

-- M 200,000,000 and V 80,000, and what follows them
abbrev loads_a : List ℕ → List ℕ
loads_a rest =
    0 ∷ 0 ∷ 0 ∷ 0 ∷ 11 ∷ 235 ∷ 194 ∷ 0
    ∷ 0 ∷ 0 ∷ 0 ∷ 0 ∷ 0 ∷ 1 ∷ 56 ∷ 128
    ∷ rest

-- the eight bytes of a layer, its depth and then its area, both below 65,536
abbrev pair : ℕ → ℕ → List ℕ
pair depth area = 0 ∷ 0 ∷ depth / 256 ∷ depth % 256 ∷ 0 ∷ 0 ∷ area / 256 ∷ area % 256 ∷ []

-- the record of A under that load with this first byte of the map, and what follows the layer
abbrev record_a : ℕ → List ℕ → List ℕ
record_a top rest = top ∷ 0 ∷ 1 ∷ 111 ∷ sizes_a (loads_a (pair 450 1500 ++ rest))

-- A with these two layers in place of its own, in this sequence
abbrev two : Layer → Layer → Section
two k l = layered (grade 30 500) 300 500 2 (k ∷ l ∷ replicate 14 no_layer)

-- the record of A with two layers, of these bytes, in place of its own: under that load, under no load, and under N 500,000,001
abbrev record_two : List ℕ → List ℕ → List ℕ
record_two k l = 0 ∷ 0 ∷ 3 ∷ 111 ∷ sizes_a (loads_a (k ++ l))

abbrev unloaded : List ℕ → List ℕ → List ℕ
unloaded k l = 0 ∷ 0 ∷ 3 ∷ 15 ∷ sizes_a (k ++ l)

abbrev overloaded : List ℕ → List ℕ → List ℕ
overloaded k l = 0 ∷ 0 ∷ 3 ∷ 31 ∷ sizes_a (0 ∷ 0 ∷ 0 ∷ 0 ∷ 29 ∷ 205 ∷ 101 ∷ 1 ∷ (k ++ l))

-- the first of these with its layers at bits 9 and 23
abbrev with_gaps : List ℕ → List ℕ → List ℕ
with_gaps k l = 0 ∷ 128 ∷ 2 ∷ 111 ∷ sizes_a (loads_a (k ++ l))

-- eight bytes, of which the last is k
abbrev eight : ℕ → List ℕ
eight k = 0 ∷ 0 ∷ 0 ∷ 0 ∷ 0 ∷ 0 ∷ 0 ∷ k ∷ []

-- without links, so that verdict six is 2
abbrev line : Face → Face → ℕ → ℕ → ℕ → ℕ → ℕ → ℕ → ℕ → ℕ → Listed
line f o vrd dm area v1 v2 v3 v4 v5 = linked_line f o vrd dm area 0 0 (v1 ∷ v2 ∷ v3 ∷ v4 ∷ v5 ∷ 2 ∷ [])

-- what that example prints of A
abbrev line_a : Listed
line_a = line (face 1358 (pos 257986051)) (face 419 (pos 6312569)) 86851 450 1500 0 0 0 0 0

-- A with links under M 200,000,000: both faces, the cotangent, the resistance and verdicts three and six
abbrev strut_line_at : Face → Face → ℕ → ℕ → ℕ → ℕ → Listed
strut_line_at f o cotangent resistance v3 v6 = linked_line f o 86851 450 1500 cotangent resistance (0 ∷ 0 ∷ v3 ∷ 0 ∷ 0 ∷ v6 ∷ [])

-- the faces as A has them, and with αcc 0.85
abbrev strut_line : ℕ → ℕ → ℕ → ℕ → Listed
strut_line = strut_line_at (face 1358 (pos 257986051)) (face 419 (pos 6312569))

abbrev reduced_strut_line : ℕ → ℕ → ℕ → ℕ → Listed
reduced_strut_line = strut_line_at (face 1598 (pos 251755182)) (face 428 (pos 5339334))

abbrev finds : Section → ℤ → ℕ → ℕ → ℕ → DepthRow
finds s n refusal u trials = record { section = s; n = n; refusal = refusal; u = u; trials = trials }

abbrev checks : Section → Load → Listed → CheckRow
checks s l lists = record { section = s; load = l; lists = lists }

abbrev tries_layer : Section → Load → ℕ → Layer → Listed → LayerRow
tries_layer s l place layer lists = record { section = s; load = l; place = place; layer = layer; lists = lists }

-- A's links under V
abbrev sheared : ℕ → ℕ → ℤ → Listed → CheckRow
sheared area spacing v lists = checks (with_links (links_with area spacing) A) (load (pos 0) (pos 200000000) v) lists

-- what 6.2.3 asks of the tie: b 200, fck 35, fyk 500, dm 250, links 312 at 365
abbrev tie : Truss
tie = record { b = 200; fck = 35; fyk = 500; g = 2333; s = 43478; dm = 250; area = 312; spacing = 365 }

-- the tests of A's links under N
abbrev asked : ℕ → ℕ → ℤ → ℕ → Case
asked area spacing n k = link_tested (with_links (links_with area spacing) A) (load n (pos 0) (pos 0)) k

-- A under N −651,690 with M of at least 0: what is listed, by verdict one
abbrev hanger : ℕ → Listed
hanger v1 = line (face 1 (pos 130553980)) (face 1 (neg_ℤ (pos 130314020))) 0 450 1500 v1 0 0 0 0

unfoldable pub cases : List Case
cases =
    -- (P) N 0 from the top
    force A 1358 (neg_ℤ (pos 330))
    ∷ force A 1359 (pos 150)
    ∷ resists A 1358 0 (pos 257986051)
    -- (P) A with M −1: turned over, and the layer alone
    ∷ turned_steel A 419 (neg_ℤ (pos 40596659))
    -- (P) the greatest N
    ∷ resists A 5000 0 (pos 99000000)
    -- (P) A, N 0: K, r and q
    ∷ shear_numbers A 1358 1666 3218 11778
    -- (P) K
    ∷ size_factor 200 2000
    ∷ size_factor 201 1997
    ∷ size_factor 1999 1316
    -- (P) f and s, among the letters of every class
    -- fck fyk   T   E   D  L    f    g     s
    ∷ letters 12 500 16 700 350 64 800 800 43478
    ∷ letters 16 500 19 700 350 64 1066 1066 43478
    ∷ letters 20 500 22 700 350 64 1333 1333 43478
    ∷ letters 25 500 26 700 350 64 1666 1666 43478
    ∷ letters 30 500 29 700 350 64 2000 2000 43478
    ∷ letters 35 500 32 700 350 64 2333 2333 43478
    ∷ letters 40 500 35 700 350 64 2666 2666 43478
    ∷ letters 45 500 38 700 350 64 3000 3000 43478
    ∷ letters 50 500 41 700 350 64 3333 3333 43478
    ∷ letters 55 500 42 620 360 63 3575 3666 43478
    ∷ letters 60 500 44 580 380 62 3800 4000 43478
    ∷ letters 70 500 46 540 400 60 4200 4666 43478
    ∷ letters 80 500 48 520 440 58 4533 5333 43478
    ∷ letters 90 500 50 520 460 56 4800 6000 43478
    -- both ends of the steel's range, and what lies beyond
    ∷ letters 30 400 29 700 350 64 2000 2000 34782
    ∷ letters 30 600 29 700 350 64 2000 2000 52173
    ∷ no_material (grade 30 399) 4
    ∷ no_material (grade 30 601) 4
    ∷ no_material (grade 31 500) 3
    ∷ no_material (grade 31 399) 3
    -- (P) h 50 passes its test, so that the layer's depth is what A fails next; 49 does not
    ∷ tests (one 300 50 30 450) 6
    ∷ tests (one 300 50 30 25) 0
    ∷ tests (one 300 49 30 450) 2
    -- (P) a depth of 500 in A, and of 499
    ∷ tests (one 300 500 30 500) 6
    ∷ tests (one 300 500 30 499) 0
    -- (P) width 49 with fck 31
    ∷ tests (one 49 500 31 450) 1
    -- request 1: what either face of A reaches
    ∷ force A 5000 (pos 2505000)
    ∷ turned_force A 5000 (pos 3052170)
    -- request 3: the tie, at 23 and at 24
    ∷ struts tie 23 192327 198086
    ∷ struts tie 24 200689 192327
    -- the example's record, and request 3: the same with links, area before spacing, between V and the layer
    ∷ written A load_a (record_a 0 [])
    ∷ written (with_links (links_with 101 200) A) load_a (
    0 ∷ 0 ∷ 1 ∷ 239
    ∷ 0 ∷ 0 ∷ 0 ∷ 0 ∷ 0 ∷ 0 ∷ 1 ∷ 44
    ∷ 0 ∷ 0 ∷ 0 ∷ 0 ∷ 0 ∷ 0 ∷ 1 ∷ 244
    ∷ 0 ∷ 0 ∷ 0 ∷ 0 ∷ 0 ∷ 0 ∷ 0 ∷ 30
    ∷ 0 ∷ 0 ∷ 0 ∷ 0 ∷ 0 ∷ 0 ∷ 1 ∷ 244
    ∷ 0 ∷ 0 ∷ 0 ∷ 0 ∷ 11 ∷ 235 ∷ 194 ∷ 0
    ∷ 0 ∷ 0 ∷ 0 ∷ 0 ∷ 0 ∷ 1 ∷ 56 ∷ 128
    ∷ 0 ∷ 0 ∷ 0 ∷ 101 ∷ 0 ∷ 0 ∷ 0 ∷ 200
    ∷ 0 ∷ 0 ∷ 1 ∷ 194 ∷ 0 ∷ 0 ∷ 5 ∷ 220
    ∷ [])
    -- request 3: both ends of 27, 28 and 29, and their sequence
    ∷ asked 0 200 (pos 0) 27
    ∷ asked 1 200 (pos 0) 0
    ∷ asked 5000 200 (pos 0) 0
    ∷ asked 5001 200 (pos 0) 27
    ∷ asked 101 24 (pos 0) 28
    ∷ asked 101 25 (pos 0) 0
    ∷ asked 101 1000 (pos 0) 0
    ∷ asked 101 1001 (pos 0) 28
    ∷ asked 101 200 (neg_ℤ (pos 1)) 29
    ∷ asked 101 200 (pos 1) 29
    ∷ asked 0 24 (pos 1) 27
    ∷ asked 101 24 (pos 1) 28
    ∷ asked 0 200 (pos 500000001) 8
    ∷ link_tested (with_links (links_with 0 200) A) (load (pos 0) (pos 0) (pos 500000001)) 10
    -- request 3: absent links are not asked, whatever their numbers
    ∷ link_tested (with_links (record { present = 0; area = 0; spacing = 7 }) A) (load (pos 1) (pos 0) (pos 0)) 0
    -- request 8: A in the accidental situation, N 0 from the top
    ∷ force accidental_a 1250 (pos 0)
    ∷ resists accidental_a 1250 0 (pos 300000000)
    -- request 8: the letters
    -- fck fyk   T   E   D  L    f    g     s
    ∷ accidental_letters 30 500 29 700 350 64 2500 2500 50000
    ∷ accidental_letters 55 500 42 620 360 63 4468 4583 50000
    ∷ accidental_letters 70 500 46 540 400 60 5250 5833 50000
    ∷ accidental_letters 90 500 50 520 460 56 6000 7500 50000
    ∷ accidental_letters 90 600 50 520 460 56 6000 7500 60000
    -- request 8: 32 beside both ends of its range; 4 before 32, 32 before 5
    ∷ no_material (grade_with (pos 0) (pos 100) 30 500) 32
    ∷ no_material (grade_with (pos 3) (pos 100) 30 500) 32
    ∷ no_material (grade_with (neg_ℤ (pos 1)) (pos 100) 30 500) 32
    ∷ tests (AWith (pos 0) (pos 100) 399 1) 4
    ∷ tests (AWith (pos 3) (pos 100) 500 0) 32
    ∷ tests (AWith (pos 2) (pos 100) 500 0) 5
    -- request 8: the situation stands after the layer (that a 1 is not written is shown by the example's record above)
    ∷ written accidental_a load_a (record_a 1 (eight 2))
    -- request 8: a missing value means 1, a present 1 is read too; 32 and zeros
    ∷ read (record_a 0 []) 0 60 (pos 1) (pos 100)
    ∷ read (record_a 1 (eight 1)) 0 68 (pos 1) (pos 100)
    ∷ read (record_a 1 (eight 2)) 0 68 (pos 2) (pos 100)
    ∷ read (record_a 1 (eight 3)) 32 68 (pos 0) (pos 0)
    -- request 10: A with αcc 0.85, N 0 from the top
    ∷ force reduced_a 1598 (neg_ℤ (pos 186))
    ∷ force reduced_a 1599 (pos 222)
    ∷ resists reduced_a 1598 0 (pos 251755182)
    -- request 10: the letters, after αcc; rounded twice f would be 959 with fck 16 and 4,079 with fck 80
    -- αcc fck fyk   T   E   D  L    f    g     s
    ∷ letters_with 85 30 500 29 700 350 64 1700 1700 43478
    ∷ letters_with 90 16 500 19 700 350 64 960 960 43478
    ∷ letters_with 90 80 500 48 520 440 58 4080 4800 43478
    ∷ letters_with 95 55 500 42 620 360 63 3396 3483 43478
    ∷ letters_with 85 90 500 50 520 460 56 4080 5100 43478
    ∷ letters_with 80 12 400 16 700 350 64 640 640 34782
    ∷ letters_with 80 90 600 50 520 460 56 3840 4800 52173
    ∷ accidental_letters_with 85 30 500 29 700 350 64 2125 2125 50000
    ∷ accidental_letters_with 80 90 600 50 520 460 56 4800 6000 60000
    -- request 10: 34 beside both ends of its range; 32 before 34, 34 before 5
    ∷ no_material (grade_with (pos 1) (pos 79) 30 500) 34
    ∷ no_material (grade_with (pos 1) (pos 101) 30 500) 34
    ∷ no_material (grade_with (pos 2) (pos 0) 30 500) 34
    ∷ no_material (grade_with (pos 2) (neg_ℤ (pos 85)) 30 500) 34
    ∷ tests (AWith (pos 1) (pos 80) 500 1) 0
    ∷ tests (AWith (pos 3) (pos 79) 500 1) 32
    ∷ tests (AWith (pos 1) (pos 101) 500 0) 34
    ∷ tests (AWith (pos 1) (pos 85) 500 0) 5
    -- request 10: αcc stands last, after the layer and the situation (that a 100 is not written is shown by the example's record above)
    ∷ written reduced_a load_a (record_a 2 (eight 85))
    ∷ written accidental_reduced_a load_a (record_a 3 (eight 2 ++ eight 85))
    -- request 10: missing means 100 (above), a present 100 is read too; 34 and zeros; bit 26
    ∷ read (record_a 2 (eight 100)) 0 68 (pos 1) (pos 100)
    ∷ read (record_a 2 (eight 85)) 0 68 (pos 1) (pos 85)
    ∷ read (record_a 3 (eight 2 ++ eight 85)) 0 76 (pos 2) (pos 85)
    ∷ read (record_a 2 (eight 79)) 34 68 (pos 0) (pos 0)
    ∷ read (record_a 4 (eight 85)) 21 0 (pos 0) (pos 0)
    -- request 6: 50/600 and 450/1,500 are written in one sequence, whichever comes first; equal depths by area
    ∷ written (two (bars 50 600) (bars 450 1500)) load_a (record_two (pair 50 600) (pair 450 1500))
    ∷ written (two (bars 450 1500) (bars 50 600)) load_a (record_two (pair 50 600) (pair 450 1500))
    ∷ written (two (bars 450 750) (bars 450 749)) (load (pos 0) (pos 0) (pos 0)) (unloaded (pair 450 749) (pair 450 750))
    -- request 6: whole numbers are compared and not their bytes; three layers
    ∷ written (two (bars 256 512) (bars 255 513)) (load (pos 0) (pos 0) (pos 0)) (unloaded (pair 255 513) (pair 256 512))
    ∷ written (two (bars 450 512) (bars 450 511)) (load (pos 0) (pos 0) (pos 0)) (unloaded (pair 450 511) (pair 450 512))
    ∷ written from_middle (load (pos 0) (pos 0) (pos 0)) (0 ∷ 0 ∷ 7 ∷ 15 ∷ sizes_a (pair 50 402 ++ (pair 400 628 ++ pair 450 942)))
    -- request 6: so they are read, with gaps between their bits too; swapped they give 31, and zeros
    ∷ read (record_two (pair 50 600) (pair 450 1500)) 0 68 (pos 1) (pos 100)
    ∷ read_layers (record_two (pair 50 600) (pair 450 1500)) (bars 50 600 ∷ bars 450 1500 ∷ [])
    ∷ read (record_two (pair 450 1500) (pair 50 600)) 31 68 (pos 0) (pos 0)
    ∷ read_layers (record_two (pair 450 1500) (pair 50 600)) []
    ∷ read (with_gaps (pair 50 600) (pair 450 1500)) 0 68 (pos 1) (pos 100)
    ∷ read (with_gaps (pair 450 1500) (pair 50 600)) 31 68 (pos 0) (pos 0)
    -- request 6: after 450/750 the same again, 450/751 and 451/749 pass; 450/749, 449/750 and 449/751 do not
    ∷ read_layers (unloaded (pair 450 750) (pair 450 750)) (bars 450 750 ∷ bars 450 750 ∷ [])
    ∷ read_layers (unloaded (pair 450 750) (pair 450 751)) (bars 450 750 ∷ bars 450 751 ∷ [])
    ∷ read_layers (unloaded (pair 450 750) (pair 451 749)) (bars 450 750 ∷ bars 451 749 ∷ [])
    ∷ read (unloaded (pair 450 750) (pair 450 749)) 31 52 (pos 0) (pos 0)
    ∷ read (unloaded (pair 450 750) (pair 449 750)) 31 52 (pos 0) (pos 0)
    ∷ read (unloaded (pair 450 750) (pair 449 751)) 31 52 (pos 0) (pos 0)
    -- request 6: 6 and 7 before 31; 31 before 8, here of N 500,000,001
    ∷ read (unloaded (pair 450 1500) (pair 0 600)) 6 52 (pos 0) (pos 0)
    ∷ read (unloaded (pair 450 1500) (pair 50 0)) 7 52 (pos 0) (pos 0)
    ∷ read (overloaded (pair 450 1500) (pair 50 600)) 31 60 (pos 0) (pos 0)
    ∷ read (overloaded (pair 50 600) (pair 450 1500)) 8 60 (pos 0) (pos 0)
    -- request 11: A just beyond 10h; turned over by hand, where the force falls again
    ∷ force_beyond A 5001 (pos 2505647)
    ∷ force_beyond over_a 6249 (pos 3651690)
    ∷ force_beyond over_a 6250 (pos 3652170)
    ∷ force_beyond over_a 15000 (pos 3609000)
    -- request 11: Moment at a depth beyond 10h, at 30h and above it (at 10h: above)
    ∷ resists A 5001 0 (pos 98894393)
    ∷ resists A 15000 0 (neg_ℤ (pos 88200000))
    ∷ resists A 15001 13 (pos 0)
    ∷ resists A 0 13 (pos 0)
    -- request 2: Moment at a depth of the same bars in three sequences, up to 10h and beyond it
    ∷ resists from_top 1358 0 (pos 285377191)
    ∷ resists from_bottom 1358 0 (pos 285377191)
    ∷ resists from_middle 1358 0 (pos 285377191)
    ∷ resists from_top 6000 0 (pos 16656312)
    ∷ resists from_bottom 6000 0 (pos 16656312)
    ∷ resists from_middle 6000 0 (pos 16656312)
    -- request 2: 6 before 7, whichever of the two layers comes first
    ∷ tests (typed (bars 500 628) (bars 450 0) (bars 50 402)) 6
    ∷ tests (typed (bars 450 0) (bars 50 402) (bars 500 628)) 6
    ∷ []

-- the rows of Find a depth: N, the refusal, u and the trials of the halving rule
unfoldable pub depth_rows : List DepthRow
depth_rows =
    -- (P) N 0 from the top
    finds A (pos 0) 0 1358 12
    -- (P) the least N, and below it
    ∷ finds A (neg_ℤ (pos 651690)) 0 1 12
    ∷ finds A (neg_ℤ (pos 651691)) 11 0 0
    -- (P) the greatest N up to 10h, and above it, where 01 had 12 and request 11 has a depth
    ∷ finds A (pos 2505000) 0 5000 13
    ∷ finds A (pos 2505001) 0 5001 0
    -- request 8: A in the accidental situation
    ∷ finds accidental_a (pos 0) 0 1250 13
    -- request 10: A with αcc 0.85, the ends of its range too
    ∷ finds reduced_a (pos 0) 0 1598 12
    ∷ finds reduced_a (neg_ℤ (pos 651762)) 0 1 12
    ∷ finds reduced_a (neg_ℤ (pos 651763)) 11 0 0
    ∷ finds reduced_a (pos 2145000) 0 5000 13
    ∷ finds reduced_a (pos 2145001) 0 5001 0
    -- request 10: 32 before 34, 34 before 5 and before 8
    ∷ finds (AWith (pos 3) (pos 79) 500 0) (pos 500000001) 32 0 0
    ∷ finds (AWith (pos 1) (pos 79) 500 0) (pos 500000001) 34 0 0
    -- request 11: A turned over by hand, where the force falls again after 6,250; A at 30h, and above it
    ∷ finds over_a (pos 3652170) 0 6250 0
    ∷ finds over_a (pos 3652171) 12 0 0
    ∷ finds A (pos 3441000) 0 15000 0
    ∷ finds A (pos 3441001) 12 0 0
    -- request 11: a force that falls below N again, so that halving would answer 12
    ∷ finds hump (pos 3700000) 0 6078 0
    -- request 11: three layers on both sides of the point that the strain line turns about
    ∷ finds column (pos 2380299) 0 5629 0
    -- request 11: N on either side of the force at 10h, which is 4,315,968.75
    ∷ finds (one 300 500 55 450) (pos 4315968) 0 4999 13
    ∷ finds (one 300 500 55 450) (pos 4315969) 0 5001 0
    -- request 11: in the accidental situation, and of the last class
    ∷ finds accidental_a (pos 3105001) 0 5001 0
    ∷ finds (one 300 500 90 450) (pos 5118001) 0 5001 0
    -- request 12: the trials at both ends of 1 to 10h, of the least height and of the greatest, where 15 are met; one newton beyond 10h
    ∷ finds low (neg_ℤ (pos 59332)) 0 1 8
    ∷ finds low (pos 148977) 0 500 9
    ∷ finds low (pos 148978) 0 501 0
    ∷ finds high (neg_ℤ (pos 651690)) 0 1 14
    ∷ finds high (pos 9626250) 0 20000 15
    ∷ finds high (pos 9626251) 0 20001 0
    -- request 2: the same bars in three sequences, up to 10h with the same trials, and beyond it
    ∷ finds from_top (pos 0) 0 1101 13
    ∷ finds from_bottom (pos 0) 0 1101 13
    ∷ finds from_middle (pos 0) 0 1101 13
    ∷ finds from_top (pos 3000000) 0 5442 0
    ∷ finds from_bottom (pos 3000000) 0 5442 0
    ∷ finds from_middle (pos 3000000) 0 5442 0
    ∷ []

-- what is listed of the same bars in three sequences
abbrev bars_line : Listed
bars_line = linked_line (face 1101 (pos 262435984)) (face 627 (pos 90133305)) 86314 430 1570 25 212428 (0 ∷ 0 ∷ 0 ∷ 0 ∷ 0 ∷ 0 ∷ [])

abbrev tension_line : Listed
tension_line = line (face 370 (neg_ℤ (pos 10564661))) (face 448 (pos 166242811)) 19375 147 1972 1 0 1 0 0

-- the rows of Check
unfoldable pub check_rows : List CheckRow
check_rows =
    -- (P) A with M −1: turned over
    checks A (load (pos 0) (neg_ℤ (pos 1)) (pos 0)) (line (face 419 (pos 6312569)) (face 1358 (pos 257986051)) 14090 50 1500 0 1 0 0 0)
    -- (P) below the least N
    ∷ checks A (load (neg_ℤ (pos 651691)) (pos 0) (pos 0)) (refused_listed 11)
    -- (P) the greatest N up to 10h, where verdicts two to four are 2, and above it, where request 11 has a depth
    ∷ checks A (load (pos 2505000) (pos 0) (pos 0)) (line (face 5000 (pos 99000000)) (face 3860 (pos 307561680)) 0 0 0 0 2 2 2 0)
    ∷ checks A (load (pos 2505001) (pos 0) (pos 0)) (line (face 5001 (pos 98894393)) (face 3860 (pos 307561680)) 0 0 0 0 2 2 2 0)
    -- the example of the list
    ∷ checks A load_a line_a
    -- request 1: the hanger passes from 130,314,020 to 130,553,980, and not with no moment
    ∷ checks A (load (neg_ℤ (pos 651690)) (pos 130314020) (pos 0)) (hanger 0)
    ∷ checks A (load (neg_ℤ (pos 651690)) (pos 130553980) (pos 0)) (hanger 0)
    ∷ checks A (load (neg_ℤ (pos 651690)) (pos 130314019) (pos 0)) (hanger 1)
    ∷ checks A (load (neg_ℤ (pos 651690)) (pos 130553981) (pos 0)) (hanger 1)
    ∷ checks A (load (neg_ℤ (pos 651690)) (pos 0) (pos 0)) (hanger 1)
    -- request 1: N that the bottom reaches up to 10h and the top does not; the top is beyond 10h by request 11
    ∷ checks A (load (pos 2505001) (neg_ℤ (pos 1)) (pos 0)) (line (face 3860 (pos 307561680)) (face 5001 (pos 98894393)) 0 0 0 0 2 2 2 0)
    ∷ checks A (load (pos 3052170) (neg_ℤ (pos 1)) (pos 0)) (line (face 5000 (pos 250434000)) (face 5907 (neg_ℤ (pos 4461057))) 0 0 0 1 2 2 2 0)
    -- request 1: MRd of the top is below −MRd of the bottom, so that no M passes (`none_between`)
    ∷ checks B (load (pos 0) (pos 0) (pos 0)) (line (face 9 (neg_ℤ (pos 2785222))) (face 475 (pos 985713)) 44 1 1500 1 1 0 0 1)
    ∷ checks B (load (pos 0) (neg_ℤ (pos 985713)) (pos 0)) (line (face 475 (pos 985713)) (face 9 (neg_ℤ (pos 2785222))) 2166 49 1500 1 1 0 0 1)
    ∷ checks B (load (pos 0) (neg_ℤ (pos 2785222)) (pos 0)) (line (face 475 (pos 985713)) (face 9 (neg_ℤ (pos 2785222))) 2166 49 1500 1 1 0 0 1)
    -- request 3: the cotangents of A, and V at the resistance and one newton beyond
    ∷ sheared 101 200 (pos 222308) (strut_line 25 222308 1 0)
    ∷ sheared 101 200 (pos 222309) (strut_line 25 222308 1 1)
    ∷ sheared 500 50 (neg_ℤ (pos 641520)) (strut_line 10 641520 1 0)
    ∷ sheared 500 50 (neg_ℤ (pos 641521)) (strut_line 10 641520 1 1)
    ∷ sheared 200 100 (pos 563474) (strut_line 16 563474 1 0)
    -- request 3: the least area at spacing 200, and the greatest spacing
    ∷ sheared 53 200 (pos 80000) (strut_line 25 116656 0 0)
    ∷ sheared 52 200 (pos 80000) (strut_line 25 114455 0 1)
    ∷ sheared 101 337 (pos 80000) (strut_line 25 131933 0 0)
    ∷ sheared 101 338 (pos 80000) (strut_line 25 131543 0 1)
    -- request 3: both limits themselves: 300 is 0.75·dm, and 60/(300·250) is 0.08·√25/500
    ∷ checks (with_links (links_with 60 300) (one 250 500 25 400)) (load (pos 0) (pos 0) (pos 78260))
    (linked_line (face 1957 (pos 209799372)) (face 797 (pos 17807973)) 68559 400 1500 25 78260 (0 ∷ 1 ∷ 1 ∷ 0 ∷ 0 ∷ 0 ∷ []))
    -- request 3: the bottom compressed, where dm is 50
    ∷ checks (with_links (links_with 101 37) A) (load (pos 0) (neg_ℤ (pos 1)) (pos 0))
    (linked_line (face 419 (pos 6312569)) (face 1358 (pos 257986051)) 14090 50 1500 13 68895 (0 ∷ 1 ∷ 0 ∷ 0 ∷ 0 ∷ 0 ∷ []))
    -- request 3: the smallest cotangent on a tie
    ∷ checks (with_links (links_with 312 365) (one 200 300 35 250)) (load (pos 0) (pos 0) (pos 0))
    (linked_line (face 1595 (pos 110898695)) (face 433 (pos 5197986)) 46831 250 1500 23 192327 (0 ∷ 1 ∷ 0 ∷ 0 ∷ 0 ∷ 1 ∷ []))
    -- request 3: above fck 50, where f is below g
    ∷ checks (with_links (links_with 600 100) (one 300 500 90 450)) (load (pos 0) (pos 200000000) (pos 1352850))
    (linked_line (face 646 (pos 278503091)) (face 345 (pos 12653841)) 125256 450 1500 13 1352850 (0 ∷ 0 ∷ 1 ∷ 0 ∷ 0 ∷ 0 ∷ []))
    -- request 3: any number but 0 is present; absent links have no numbers
    ∷ checks (with_links (record { present = 7; area = 101; spacing = 200 }) A) (load (pos 0) (pos 200000000) (pos 222308)) (strut_line 25 222308 1 0)
    ∷ checks (with_links (record { present = 0; area = 101; spacing = 200 }) A) load_a (strut_line 0 0 0 2)
    -- request 3: 27, 28 and 29, and 29 before 11 and 12
    ∷ sheared 0 200 (pos 0) (refused_listed 27)
    ∷ sheared 101 24 (pos 0) (refused_listed 28)
    ∷ checks (with_links (links_with 101 200) A) (load (pos 1) (pos 0) (pos 0)) (refused_listed 29)
    ∷ checks (with_links (links_with 101 200) A) (load (neg_ℤ (pos 651691)) (pos 0) (pos 0)) (refused_listed 29)
    ∷ checks (with_links (links_with 101 200) A) (load (pos 2505001) (pos 0) (pos 0)) (refused_listed 29)
    -- request 8: the example of the list in the accidental situation, and the other face compressed
    ∷ checks accidental_a load_a (line (face 1250 (pos 300000000)) (face 405 (pos 7554140)) 108564 450 1500 0 0 0 0 0)
    ∷ checks accidental_a (load (pos 0) (neg_ℤ (pos 1)) (pos 0)) (line (face 405 (pos 7554140)) (face 1250 (pos 300000000)) 17613 50 1500 0 1 0 0 0)
    -- request 8: 32 before 5 and before 8
    ∷ checks (AWith (pos 3) (pos 100) 500 0) (load (pos 500000001) (pos 0) (pos 0)) (refused_listed 32)
    -- request 10: the example of the list with αcc 0.85, M at the resistance and beyond, and the other face compressed
    ∷ checks reduced_a load_a (line (face 1598 (pos 251755182)) (face 428 (pos 5339334)) 86851 450 1500 0 0 0 0 0)
    ∷ checks reduced_a (load (pos 0) (pos 251755182) (pos 0)) (line (face 1598 (pos 251755182)) (face 428 (pos 5339334)) 86851 450 1500 0 0 0 0 0)
    ∷ checks reduced_a (load (pos 0) (pos 251755183) (pos 0)) (line (face 1598 (pos 251755182)) (face 428 (pos 5339334)) 86851 450 1500 1 0 0 0 0)
    ∷ checks reduced_a (load (pos 0) (neg_ℤ (pos 1)) (pos 0)) (line (face 428 (pos 5339334)) (face 1598 (pos 251755182)) 14090 50 1500 0 1 0 0 0)
    -- request 10: the cap on N's share, which has g, and V at the resistance and one newton beyond
    ∷ checks reduced_a (load (pos 1000000) (pos 0) (pos 155701)) (line (face 3342 (pos 231371318)) (face 1074 (pos 202957907)) 155701 450 1500 0 1 0 0 0)
    ∷ checks reduced_a (load (pos 1000000) (pos 0) (pos 155702)) (line (face 3342 (pos 231371318)) (face 1074 (pos 202957907)) 155701 450 1500 0 1 1 0 0)
    -- request 10: the strut, which has g, where αcc 1.00 gives 641,520; and links that govern
    ∷ checks (with_links (links_with 500 50) reduced_a) (load (pos 0) (pos 200000000) (pos 545292)) (reduced_strut_line 10 545292 1 0)
    ∷ checks (with_links (links_with 500 50) reduced_a) (load (pos 0) (pos 200000000) (pos 545293)) (reduced_strut_line 10 545292 1 1)
    ∷ checks (with_links (links_with 101 200) reduced_a) load_a (reduced_strut_line 25 222308 0 0)
    -- request 10: in the accidental situation
    ∷ checks accidental_reduced_a load_a
    (line (face 1470 (pos 293342640)) (face 415 (pos 6387061)) 108564 450 1500 0 0 0 0 0)
    -- request 10: 34 before 5 and before 8
    ∷ checks (AWith (pos 1) (pos 79) 500 0) (load (pos 500000001) (pos 0) (pos 0)) (refused_listed 34)
    -- request 11: both faces beyond 10h; the top at 30h, and M at its resistance and one beyond
    ∷ checks A (load (pos 3052171) (pos 0) (pos 0)) (line (face 5908 (neg_ℤ (pos 4585991))) (face 5001 (pos 250361980)) 0 0 0 1 2 2 2 0)
    ∷ checks A (load (pos 3441000) (pos 0) (pos 0)) (line (face 15000 (neg_ℤ (pos 88200000))) (face 5811 (pos 179413756)) 0 0 0 1 2 2 2 0)
    ∷ checks A (load (pos 3441000) (neg_ℤ (pos 88200000)) (pos 0))
    (line (face 5811 (pos 179413756)) (face 15000 (neg_ℤ (pos 88200000))) 0 0 0 0 2 2 2 0)
    ∷ checks A (load (pos 3441000) (neg_ℤ (pos 88199999)) (pos 0))
    (line (face 5811 (pos 179413756)) (face 15000 (neg_ℤ (pos 88200000))) 0 0 0 1 2 2 2 0)
    -- request 11: layers in tension below the face shown, while the other lies beyond 10h; and the other way round
    ∷ checks mixed (load (pos 4500000) (pos 402077838) (pos 16572))
    (line (face 2203 (pos 473019290)) (face 5035 (neg_ℤ (pos 402077838))) 16572 450 100 0 1 0 0 1)
    ∷ checks mixed (load (pos 4500000) (neg_ℤ (pos 402077838)) (pos 0))
    (line (face 5035 (neg_ℤ (pos 402077838))) (face 2203 (pos 473019290)) 0 0 0 1 2 2 2 1)
    -- request 11: 12 of the top alone, for both signs of M; and of the bottom alone
    ∷ checks A (load (pos 3441001) (pos 0) (pos 0)) (refused_listed 12)
    ∷ checks A (load (pos 3441001) (neg_ℤ (pos 1)) (pos 0)) (refused_listed 12)
    ∷ checks over_a (load (pos 3441001) (pos 0) (pos 0)) (refused_listed 12)
    -- request 2: the same bars in three sequences, with links
    ∷ checks (with_links (links_with 101 200) from_top) load_a bars_line
    ∷ checks (with_links (links_with 101 200) from_bottom) load_a bars_line
    ∷ checks (with_links (links_with 101 200) from_middle) load_a bars_line
    -- request 2: the bottom compressed and all layers in tension
    ∷ checks from_top (load (neg_ℤ (pos 500000)) (neg_ℤ (pos 20000000)) (pos 80000)) tension_line
    ∷ checks from_bottom (load (neg_ℤ (pos 500000)) (neg_ℤ (pos 20000000)) (pos 80000)) tension_line
    ∷ []

-- 300 wide, with sixteen layers of 200, 10 mm apart from 450 upward, of which so many are counted; and so high as A
abbrev sixteen_in : ℕ → ℕ → Section
sixteen_in h count =
    layered (grade 30 500) 300 h count
    (bars 450 200 ∷ bars 440 200 ∷ bars 430 200 ∷ bars 420 200 ∷ bars 410 200 ∷ bars 400 200 ∷ bars 390 200 ∷ bars 380 200
    ∷ bars 370 200 ∷ bars 360 200 ∷ bars 350 200 ∷ bars 340 200 ∷ bars 330 200 ∷ bars 320 200 ∷ bars 310 200 ∷ bars 300 200 ∷ [])

abbrev sixteen : ℕ → Section
sixteen = sixteen_in 500

-- what is listed of the sixteen with the last one at 40, of 300
abbrev sixteen_line : Listed
sixteen_line = line (face 2233 (pos 361644195)) (face 997 (pos 116815993)) 92362 380 3000 0 1 0 0 0

-- A's steel under M 257,986,051, its resistance, by verdict one
abbrev at_resistance : ℕ → Listed → LayerRow
at_resistance area lists = tries_layer A (load (pos 0) (pos 257986051) (pos 80000)) 0 (bars 450 area) lists

-- the rows of Try a layer: a section, a load, a place from 0 and a layer
unfoldable pub layer_rows : List LayerRow
layer_rows =
    -- the example of 01's list: from another depth, from another area, as the first layer of all, and from a section that 6 or 7 refuses
    tries_layer (one 300 500 30 400) load_a 0 (bars 450 1500) line_a
    ∷ tries_layer (layered (grade 30 500) 300 500 1 (bars 450 1 ∷ replicate 15 no_layer)) load_a 0 (bars 450 1500) line_a
    ∷ tries_layer (one_in (grade 30 500) 0 300 500 400) load_a 0 (bars 450 1500) line_a
    ∷ tries_layer (one 300 500 30 500) load_a 0 (bars 450 1500) line_a
    ∷ tries_layer (layered (grade 30 500) 300 500 1 (bars 450 20001 ∷ replicate 15 no_layer)) load_a 0 (bars 450 1500) line_a
    -- its layer dragged, and the area by one mm² about the one that M needs
    ∷ tries_layer A load_a 0 (bars 400 1500) (line (face 1358 (pos 225377551)) (face 745 (pos 24834124)) 82271 400 1500 0 0 0 0 0)
    ∷ tries_layer A load_a 0 (bars 499 1500) (line (face 1358 (pos 289942381)) (face 9 (neg_ℤ (pos 27971556))) 91203 499 1500 0 0 0 0 0)
    ∷ at_resistance 1499 (line (face 1357 (pos 257831223)) (face 419 (pos 6339633)) 86824 450 1499 1 0 0 0 0)
    ∷ at_resistance 1500 line_a
    ∷ at_resistance 20000 (line (face 3961 (pos 555096091)) (face 491 (pos 2967415)) 105635 450 20000 0 1 0 0 1)
    -- by one mm, where the links are at the greatest spacing
    ∷ tries_layer (with_links (links_with 101 337) A) load_a 0 (bars 449 1500)
    (linked_line (face 1358 (pos 257333881)) (face 426 (pos 6434251)) 86764 449 1500 25 131640 (0 ∷ 0 ∷ 0 ∷ 0 ∷ 0 ∷ 1 ∷ []))
    -- a layer is added, for either sign of M
    ∷ tries_layer A load_a 1 (bars 50 500) (line (face 995 (pos 265649640)) (face 491 (pos 93919956)) 86851 450 1500 0 0 0 0 0)
    ∷ tries_layer A (load (pos 0) (neg_ℤ (pos 1)) (pos 0)) 1 (bars 50 500) (line (face 491 (pos 93919956)) (face 995 (pos 265649640)) 42271 150 2000 0 0 0 0 0)
    -- where the section has links, and in the accidental situation with αcc 0.85
    ∷ tries_layer (with_links (links_with 101 200) A) load_a 1 (bars 50 500)
    (linked_line (face 995 (pos 265649640)) (face 491 (pos 93919956)) 86851 450 1500 25 222308 (0 ∷ 0 ∷ 0 ∷ 0 ∷ 0 ∷ 0 ∷ []))
    ∷ tries_layer accidental_reduced_a load_a 1 (bars 50 500)
    (line (face 1097 (pos 303412760)) (face 498 (pos 107592344)) 108564 450 1500 0 0 0 0 0)
    -- a layer between others, and one added beyond 10h
    ∷ tries_layer column (load (pos 1000000) (pos 20000000) (pos 20000)) 1 (bars 200 402)
    (line (face 1866 (pos 110749047)) (face 1702 (pos 120643893)) 98205 230 1030 0 1 0 0 0)
    ∷ tries_layer column (load (pos 2300000) (pos 10000000) (pos 20000)) 3 (bars 150 402) (line (face 3418 (pos 38571737)) (face 3418 (pos 38571737)) 0 0 0 0 2 2 2 0)
    -- 33, before 1 and whatever the layer
    ∷ tries_layer A load_a 2 (bars 50 500) (refused_listed 33)
    ∷ tries_layer (one 49 500 30 450) load_a 2 (bars 0 0) (refused_listed 33)
    ∷ tries_layer (one 49 500 30 450) load_a 1 (bars 0 0) (refused_listed 1)
    -- 6 and 7 of the layer that is tried
    ∷ tries_layer A load_a 0 (bars 500 1500) (refused_listed 6)
    ∷ tries_layer A load_a 1 (bars 0 1500) (refused_listed 6)
    ∷ tries_layer A load_a 0 (bars 450 20001) (refused_listed 7)
    -- sixteen: the last one replaced, or added; one more is refused by 5, after 2, and two more by 33
    ∷ tries_layer (sixteen 16) load_a 15 (bars 40 300) sixteen_line
    ∷ tries_layer (sixteen 15) load_a 15 (bars 40 300) sixteen_line
    ∷ tries_layer (sixteen 16) load_a 16 (bars 40 300) (refused_listed 5)
    ∷ tries_layer (sixteen_in 49 16) load_a 16 (bars 40 300) (refused_listed 2)
    ∷ tries_layer (sixteen 16) load_a 17 (bars 40 300) (refused_listed 33)
    -- a number that no section has
    ∷ tries_layer (sixteen 17) load_a 16 (bars 40 300) (refused_listed 5)
    ∷ tries_layer (sixteen (2 ^ 64 - 1)) load_a 0 (bars 40 300) (refused_listed 5)
    ∷ tries_layer (sixteen (2 ^ 64 - 1)) load_a (2 ^ 64 - 1) (bars 40 300) (refused_listed 5)
    ∷ []
