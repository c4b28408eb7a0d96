-- With every tenth the links resist no less, the strut no more, and one comparison says which of the two resists less. Assumes nothing.
use Prim.Native.Nat.{ℕ, ◌+◌, ◌-◌, ◌*◌, ◌≤◌, ◌<◌}
use mathlib.Core.Path.{◌≡◌}
use native.Mathlib.Nat.{le_refl, le_of_lt, mul-le-mul, mul-le-mul_left}
use native.Mathlib.Omega.{arith}
use Rattle.arith.proofs.Floor.{quotients}
use Rattle.arith.proofs.Fraction.{exchange, sides}
use Rattle.links.specs.Links.{Truss, link_resistance, strut_resistance}
use Rattle.links.specs.Code.Ranges.{TrussBounds}
use Rattle.links.proofs.Whole.{link_is, strut_is}

-- d/(d² + 100) is no more than c/(c² + 100), from 10 on
falls_sides : (k c d : ℕ) → 10 ≤ c → c ≤ d → k * d * (125000 * (c * c + 100)) ≤ k * c * (125000 * (d * d + 100))
falls_sides k c d low h =
    let ten : 10 ≤ d = omega arith in
    let hundred : 100 ≤ c * d = mul-le-mul low ten in
    let cross : d * (c * c + 100) ≤ c * (d * d + 100) = omega (arith, exchange h hundred) in
    omega (arith, mul-le-mul_left (125000 * k) cross)

-- (6.8) and (6.9) without rounding, brought to one divisor, are so many times the two sides of the comparison, with v for 250 − fck and w for
-- c² + 100
links-times : (a s dm c w : ℕ) → 9 * a * dm * s * c * (125000 * w) ≡ 45000 * dm * c * (25 * a * s * w)
links-times a s dm c w = omega arith

strut_times : (b v g p dm c : ℕ) → 27 * b * dm * v * g * c * (10000 * p) ≡ 45000 * dm * c * (6 * b * v * g * p)
strut_times b v g p dm c = omega arith

module _ (x : Truss) (w : TrussBounds x) where
  abbrev pub steel : ℕ
  steel = 25 * x.area * x.s

  abbrev pub concrete : ℕ
  concrete = 6 * x.b * (250 - x.fck) * x.g * x.spacing

  weak : x.fck ≤ 250
  weak = omega (arith, w.fck_high)

  spaced : 1 ≤ 10000 * x.spacing
  spaced = omega (arith, w.spacing_low)

  pub links-rise : (c d : ℕ) → 10 ≤ c → c ≤ d → d ≤ 25 → link_resistance x c ≤ link_resistance x d
  links-rise c d low h high =
      rw (link_is x c w.spacing_low (omega arith), link_is x d w.spacing_low (omega arith))
      (quotients _ _ spaced spaced (mul-le-mul (mul-le-mul_left (9 * x.area * x.dm * x.s) h) (le_refl (10000 * x.spacing))))

  pub strut_falls : (c d : ℕ) → 10 ≤ c → c ≤ d → d ≤ 25 → strut_resistance x d ≤ strut_resistance x c
  strut_falls c d low h high =
      rw (strut_is x c weak (omega arith), strut_is x d weak (omega arith))
      (quotients _ _ (omega arith) (omega arith) (falls_sides (27 * x.b * x.dm * (250 - x.fck) * x.g) c d low h))

  -- by the comparison, whichever of the two is the lesser
  links_side : (c : ℕ) → 9 * x.area * x.dm * x.s * c * (125000 * (c * c + 100)) ≡ 45000 * x.dm * c * (steel * (c * c + 100))
  links_side c = links-times x.area x.s x.dm c (c * c + 100)

  strut_side : (c : ℕ) → 27 * x.b * x.dm * (250 - x.fck) * x.g * c * (10000 * x.spacing) ≡ 45000 * x.dm * c * concrete
  strut_side c = strut_times x.b (250 - x.fck) x.g x.spacing x.dm c

  pub links_less : (c : ℕ) → 1 ≤ c → steel * (c * c + 100) ≤ concrete → link_resistance x c ≤ strut_resistance x c
  links_less c h less =
      rw (link_is x c w.spacing_low h, strut_is x c weak h)
      (quotients _ _ spaced (omega arith) (sides _ _ (mul-le-mul_left (45000 * x.dm * c) less) (links_side c) (strut_side c)))

  pub strut_less : (c : ℕ) → 1 ≤ c → concrete < steel * (c * c + 100) → strut_resistance x c ≤ link_resistance x c
  strut_less c h more =
      rw (link_is x c w.spacing_low h, strut_is x c weak h)
      (quotients _ _ (omega arith) spaced (sides _ _ (mul-le-mul_left (45000 * x.dm * c) (le_of_lt more)) (strut_side c) (links_side c)))
