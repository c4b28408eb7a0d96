-- The formulas of 6.2.3 and 9.2.2 come to divisions and tests of whole numbers; and what the cotangent is best at. Assumes nothing.
use Prim.Native.Nat.{ℕ, ◌+◌, ◌-◌, ◌*◌, ◌/◌, ◌≤◌}
use mathlib.Core.Path.{◌≡◌, ap}
use native.Mathlib.Nat.{sub-add_cancel}
use native.Mathlib.Omega.{arith}
use lib.Dec.{T, leb, le→leb}
use lib.IntN.{pos}
use Rattle.arith.specs.Fraction.{Same, whole, ratio, reciprocal, ◌-ᶠ◌, ◌*ᶠ◌, ◌/ᶠ◌, ◌÷ᶠ◌, ◌+ʳ◌}
use Rattle.arith.proofs.Fraction.{tidy, proper, Positive, ÷ᶠ-proper}
use Rattle.arith.proofs.Greatest.{first-greatest}
use Rattle.arith.proofs.Quotient.{per, rounded_same, times-test}
use Rattle.links.specs.Links.{Truss, lever, ν, cotangent, link_resistance, strut_resistance, strut_cotangent, BestCotangent, spacing_ok, square, ratio_ok}

-- ---- the resistances

-- 0.6·(1 − fck/250) over 1, with v for 250 − fck and w for c² + 100
strut_sides : (b d v k g c w : ℕ) → v + k ≡ 250
    → b * (9 * d) * 1500 * g * (10 * c) * (125000 * w) ≡ 27 * b * d * v * g * c * (2500000 * w) + b * (9 * d) * (6 * k) * g * (10 * c) * (125000 * w)
strut_sides b d v k g c w e = omega (arith, ap (λ (t : ℕ). b * d * t * g * c * w) e)

module _ (x : Truss) (c : ℕ) where
  link_same : Same (whole x.area /ᶠ x.spacing *ᶠ lever x *ᶠ (whole x.s /ᶠ 100) *ᶠ ratio (cotangent c))
      (per (10000 * x.spacing) (pos (9 * x.area * x.dm * x.s * c)))
  unfolding whole ratio ◌*ᶠ◌ ◌/ᶠ◌
  link_same = record { same = simp tidy (omega arith) }

  strut_same : x.fck ≤ 250
      → Same (whole x.b *ᶠ lever x *ᶠ ν x *ᶠ (whole x.g /ᶠ 100) ÷ᶠ (cotangent c +ʳ reciprocal (cotangent c)))
      (per (125000 * (c * c + 100)) (pos (27 * x.b * x.dm * (250 - x.fck) * x.g * c)))
  unfolding whole ◌-ᶠ◌ ◌*ᶠ◌ ◌/ᶠ◌ ◌÷ᶠ◌ ◌+ʳ◌ reciprocal
  strut_same h = record { same = simp tidy (strut_sides x.b x.dm (250 - x.fck) x.fck x.g c (c * c + 100) (sub-add_cancel h)) }

  cotangent_positive : 1 ≤ c → Positive (cotangent c)
  cotangent_positive h = record { p_pos = h; q-pos = omega arith }

  sum_positive : 1 ≤ c → Positive (cotangent c +ʳ reciprocal (cotangent c))
  unfolding ◌+ʳ◌ reciprocal
  sum_positive h = record { p_pos = omega arith; q-pos = omega arith }

  pub link_is : 1 ≤ x.spacing → 1 ≤ c → link_resistance x c ≡ 9 * x.area * x.dm * x.s * c / (10000 * x.spacing)
  unfolding link_resistance
  link_is h k =
      let low : Positive (cotangent c) = cotangent_positive k in
      let spaced : T (leb 1 x.spacing) = le→leb 1 x.spacing h in
      rounded_same _ (search proper depth 9) (omega arith) link_same

  pub strut_is : x.fck ≤ 250 → 1 ≤ c → strut_resistance x c ≡ 27 * x.b * x.dm * (250 - x.fck) * x.g * c / (125000 * (c * c + 100))
  unfolding strut_resistance
  strut_is h k = rounded_same _ (÷ᶠ-proper (search proper depth 8) (sum_positive k)) (omega arith) (strut_same h)

-- the answer does best, and every smaller tenth worse
pub best_cotangent : (x : Truss) → BestCotangent x (strut_cotangent x)
unfolding strut_cotangent
best_cotangent x = first-greatest 15

-- ---- the tests of 9.2.2

module _ (x : Truss) where
  pub spacing_is : leb (4 * x.spacing) (3 * x.dm) ≡ spacing_ok x
  unfolding spacing_ok
  spacing_is =
      times-test 25 (4 * x.spacing) (3 * x.dm) (whole x.spacing) _ (omega arith) (unfold whole ◌*ᶠ◌ ◌/ᶠ◌ in omega arith)
      (unfold whole ◌*ᶠ◌ ◌/ᶠ◌ in omega arith)

  abbrev pub concrete : ℕ
  concrete = x.spacing * x.b

  abbrev pub steel : ℕ
  steel = x.area * x.fyk

  pub ratio_is : leb (4 * x.fck * (concrete * concrete)) (625 * (steel * steel)) ≡ ratio_ok x
  unfolding ratio_ok
  ratio_is =
      times-test 16 (4 * x.fck * (concrete * concrete)) (625 * (steel * steel)) (square (whole 8 /ᶠ 100 /ᶠ x.fyk) *ᶠ whole x.fck) _ (omega arith)
      (unfold whole ◌*ᶠ◌ ◌/ᶠ◌ in simp tidy (omega arith)) (unfold whole ◌*ᶠ◌ ◌/ᶠ◌ in simp tidy (omega arith))
