-- The shear resistance without shear reinforcement, 6.2.2(1): document 01, "Verdicts", the third, and 02's ticket 8. As is the area of
-- the tension layers, dm their mean depth; g is the concrete's strength without the block's factor, crd 100 times CRd,c, both from the
-- materials. Between whole numbers `/` is rounded down. Assumes nothing.
use Rattle.std.specs.Prelude.{ℕ, ◌*◌, ◌/◌, ◌^◌, max, Bool, cond, leb, ltb, ℤ, pos, negsuc, ◌+ℤ◌}
use Rattle.std.specs.Int.Signed.{le_z}
use Rattle.arith.specs.Fraction.{whole, integer, ◌*ᶠ◌, ◌/ᶠ◌, floor}
use Rattle.arith.specs.Greatest.{greatest}
use Rattle.shear.specs.SizeFactor.{K}

-- 01's r: the greatest whole number with r³·b·dm ≤ 10¹¹·As·fck; where 50·As > b·dm, with r³ ≤ 2·10⁹·fck instead
abbrev pub r_test : ℕ → ℕ → ℕ → ℕ → ℕ → Bool
r_test b fck As dm r =
    cond (ltb (b * dm) (50 * As))
    (leb (r ^ 3) (2 * 10 ^ 9 * fck))
    (leb (r ^ 3 * (b * dm)) (10 ^ 11 * As * fck))

-- up to fck 90 no number above 5,646 passes: law `r-greatest`
unfoldable pub r : ℕ → ℕ → ℕ → ℕ → ℕ
r b fck As dm = greatest (r_test b fck As dm) 5646

-- 01's q: the greatest with 1,000·q² ≤ K³·fck
abbrev pub q_test : ℕ → ℕ → ℕ → Bool
q_test fck k q = leb (1000 * q ^ 2) (k ^ 3 * fck)

-- up to fck 90 and K 2,000 no number above 26,832 passes: law `q-greatest`
unfoldable pub q : ℕ → ℕ → ℕ
q fck k = greatest (q_test fck k) 26832

-- 01's v: the greater of 12·K·r/100 rounded down and 35·q, where 02's ticket 8 has 15 for 12 in the accidental situation: crd. The 35·q is
-- vmin of (6.3N), which has no partial factor.
unfoldable pub v : ℕ → ℕ → ℕ → ℕ → ℕ → ℕ
v crd b fck As dm = max (crd * K dm * r b fck As dm / 100) (35 * q fck (K dm))

-- 01's c: the lesser of N and g·b·h/500 rounded down
abbrev pub lesser : ℤ → ℤ → ℤ
lesser x y = cond (le_z x y) x y

unfoldable pub c : ℤ → ℕ → ℕ → ℕ → ℤ
c N g b h = lesser N (pos (g * b * h / 500))

-- what the concrete carries, v·b·dm/1,000,000, and what N adds, 15·c·dm/(100·h), each rounded down. (That 15 is k1, 0.15 in every
-- situation.)
unfoldable pub concrete_share : ℕ → ℕ → ℕ → ℕ → ℕ → ℕ
concrete_share crd b fck As dm = v crd b fck As dm * b * dm / 1000000

unfoldable pub axial_share : ℤ → ℕ → ℕ → ℤ
axial_share c dm h = floor (whole 15 *ᶠ integer c *ᶠ whole dm /ᶠ (100 * h))

-- a number, or 0 if it is negative
abbrev pub or_zero : ℤ → ℕ
or_zero (pos n) = n
or_zero (negsuc n) = 0

-- all that VRd,c is found from: the section's b and h, the concrete's fck, g and crd, the load's N, and As and dm of the tension layers
pub record Sheared : Type 0 where
  pub b : ℕ
  pub h : ℕ
  pub fck : ℕ
  pub g : ℕ
  pub crd : ℕ
  pub N : ℤ
  pub As : ℕ
  pub dm : ℕ

-- VRd,c: the sum of both shares, or 0 if that is negative; 0 with no tension layer
unfoldable pub VRdc : Sheared → ℕ
VRdc x =
    cond (leb 1 x.As)
    (or_zero (pos (concrete_share x.crd x.b x.fck x.As x.dm) +ℤ axial_share (c x.N x.g x.b x.h) x.dm x.h))
    0
