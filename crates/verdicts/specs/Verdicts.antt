-- The six verdicts, in the documents' sequence; the first as 02's ticket 1 has it, the sixth by its ticket 3. As is the area of the tension
-- layers and dm their mean depth. Assumes nothing.
use Rattle.std.specs.Prelude.{ℕ, ◌*◌, Bool, cond, ◌&&◌, leb, ℤ, nat_abs, neg_ℤ}
use Rattle.std.specs.Int.Signed.{le_z}
use Rattle.links.specs.declared.Truss.{Truss}
use Rattle.links.specs.Links.{truss_resistance, spacing_ok, ratio_ok}
use Rattle.verdicts.specs.declared.Verdict.{Verdict}
use Rattle.verdicts.specs.declared.Verdict.TheVariants.{Pass, Fail, NotReached}

-- 0 is pass, 1 fail, 2 not reached
abbrev pub number_of : Verdict → ℕ
number_of Pass = 0
number_of Fail = 1
number_of NotReached = 2

abbrev pub judged : Bool → Verdict
judged t = cond t Pass Fail

-- with no tension layer, where As is 0, the second, third and fourth verdicts are not reached
abbrev pub reached : ℕ → Verdict → Verdict
reached As verdict = cond (leb 1 As) verdict NotReached

-- one, 6.1: pass when M is at most MRd with the top compressed, and at least −MRd with the bottom compressed. Either may be negative,
-- and no M need lie between them.
abbrev pub first : ℤ → ℤ → ℤ → Verdict
first M top bottom = judged (le_z M top && le_z (neg_ℤ bottom) M)

-- two, 5.6.3(2): 10u ≤ 45·dm up to fck 50, else 10u ≤ 35·dm
abbrev pub second : ℕ → ℕ → ℕ → ℕ → Verdict
second fck u As dm = reached As (judged (cond (leb fck 50) (leb (10 * u) (45 * dm)) (leb (10 * u) (35 * dm))))

-- three, 6.2.2: pass when |V| ≤ VRd,c
abbrev pub third : ℤ → ℕ → ℕ → Verdict
third «V» VRdc As = reached As (judged (leb (nat_abs «V») VRdc))

-- four, 9.2.1.1(1): 26·T·b·dm ≤ 1,000·As·fyk and 13·b·dm ≤ 10,000·As
abbrev pub fourth : ℕ → ℕ → ℕ → ℕ → ℕ → Verdict
fourth T fyk b As dm =
    reached As (judged (leb (26 * T * b * dm) (1000 * As * fyk) && leb (13 * b * dm) (10000 * As)))

-- five, 9.2.1.1(3): 25 times the area of all layers ≤ b·h
abbrev pub fifth : ℕ → ℕ → ℕ → Verdict
fifth area b h = judged (leb (25 * area) (b * h))

-- six, 6.2.3, of a section with links and tension layers: pass when |V| is at most the resistance, the spacing at most 0.75·dm (9.2.2(6)) and
-- the link ratio at least 0.08·√fck/fyk (9.2.2(5))
abbrev pub sixth : Truss → ℤ → Verdict
sixth x «V» = judged (leb (nat_abs «V») (truss_resistance x) && (spacing_ok x && ratio_ok x))
