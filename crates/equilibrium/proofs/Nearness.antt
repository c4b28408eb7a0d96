-- How far the reported moment may be from the unrounded one. Each part of the section has its share of the allowance,
-- h/2 times the growth of its force plus 1, and the shares add up. Assumes nothing.
use Prim.Native.Nat.{ℕ, ◌+◌, ◌*◌, ◌≤◌}
use mathlib.Core.List.{List, [], ◌∷◌}
use native.Mathlib.Nat.{mul-le-mul_left, mul-le-mul_right, mul-le-mul}
use native.Mathlib.Numerals.{one-add}
use native.Mathlib.Omega.{arith}
use lib.ListN.{length}
use lib.IntN.{ℤ, ◌+ℤ◌}
use Rattle.arith.specs.Fraction.{Fraction, Proper, Ratio, whole, integer, ratio, ◌+ᶠ◌, ◌-ᶠ◌, ◌*ᶠ◌, ◌/ᶠ◌}
use Rattle.arith.specs.Fraction.{left, right, ◌≤ᶠ◌, DifferAtMost, floor}
use Rattle.arith.proofs.Fraction.{tidy, sides, exchange, Positive, proper, +ᶠ-proper, +ᶠ-mono, swap, differences, integer-add, floor_near}
use Rattle.arith.proofs.Fraction.{differ_trans, differ_add, differ_same}
use Rattle.section.specs.declared.Layer.{Layer}
use Rattle.section.specs.declared.Design.{Design}
use Rattle.equilibrium.specs.Force.{at, concrete_force, layer_force, steel_force, internal_force}
use Rattle.equilibrium.specs.Force.{concrete_moment, layer_moment, steel_moment, unrounded_moment, steel_resistance, moment_resistance}
use Rattle.equilibrium.proofs.Rising.{at_positive, at-whole, concrete_proper, layer_proper, steel_proper, layer_mono}
use Rattle.section.proofs.Usable.{DepthsWithin}

abbrev half : ℕ → Fraction
half h = whole h /ᶠ 2

-- the share of a part whose force goes from a to b, and that is rounded n times
abbrev share : ℕ → ℕ → Fraction → Fraction → Fraction
share h n a b = half h *ᶠ (b -ᶠ a) +ᶠ whole n

-- ---- the shares add up

spread : (h : ℕ) (a b : Fraction) → half h *ᶠ a +ᶠ half h *ᶠ b ≤ᶠ half h *ᶠ (a +ᶠ b)
unfolding ◌*ᶠ◌ ◌+ᶠ◌ ◌/ᶠ◌ whole
spread h a b = record { le = simp tidy (omega arith) }

shares : (h m n : ℕ) (a b c d : Fraction) → share h m a b +ᶠ share h n c d ≤ᶠ share h (m + n) (a +ᶠ c) (b +ᶠ d)
shares h m n a b c d = rw (swap (half h *ᶠ (b -ᶠ a)) (whole m) (half h *ᶠ (d -ᶠ c)) (whole n), ← differences b d a c)
    (+ᶠ-mono (spread h (b -ᶠ a) (d -ᶠ c)) (unfold whole ◌+ᶠ◌ in omega arith))

join : (h m n : ℕ) {a b c d M M' : Fraction} (r r' : ℤ) → Proper a → Proper b → Proper c → Proper d → Proper M → Proper M' →
    DifferAtMost (share h m a b) M (integer r) → DifferAtMost (share h n c d) M' (integer r') → DifferAtMost (share h (m + n) (a +ᶠ c) (b +ᶠ d)) (M +ᶠ M')
    (integer (r +ℤ r'))
join h m n {a} {b} {c} {d} r r' pa pb pc pd pM pM' v w =
    differ_same {b = integer r +ᶠ integer r'} (search proper) (search proper) (integer-add r r')
    (differ_add {e = share h m a b} {f = share h n c d} (search proper) (search proper) pM (search proper) pM' (search proper) (shares h m n a b c d) v w)

-- ---- a force at an arm: |h/2 − d| ≤ h/2

arm_near : (h d : ℕ) {a b : Fraction} → d ≤ h → a ≤ᶠ b →
    DifferAtMost (half h *ᶠ (b -ᶠ a)) (b *ᶠ (half h -ᶠ whole d)) (a *ᶠ (half h -ᶠ whole d))
unfolding ◌*ᶠ◌ ◌-ᶠ◌ ◌+ᶠ◌ ◌/ᶠ◌ whole
arm_near h d {a} {b} l k = record {
  most = record {
    le = sides (K * (h * (left a b + right a b) + 2 * (d * left a b))) (K * (h * (left a b + right a b) + 2 * (d * right a b)))
        (mul-le-mul_left K (omega (arith, mul-le-mul_left d k.le))) (simp tidy (omega arith)) (simp tidy (omega arith));
  };
  least = record {
    le = sides (K * (2 * (h * left a b + d * right a b))) (K * (2 * (h * right a b + d * left a b)))
        (mul-le-mul_left K (omega (arith, exchange l k.le))) (simp tidy (omega arith)) (simp tidy (omega arith));
  };
}
  where
    K : ℕ
    K = 4 * a.over * b.over

-- ---- the concrete: |800h − L·(y + u)| ≤ 800h

concrete_near : (x : Design) (u : ℕ) (y : Ratio) → u * y.q ≤ y.p → x.m.l * (y.p + u * y.q) ≤ 1600 * x.h * y.q →
    DifferAtMost (half x.h *ᶠ (concrete_force x y -ᶠ concrete_force x (at u))) (concrete_moment x y) (concrete_moment x (at u))
unfolding ◌*ᶠ◌ ◌-ᶠ◌ ◌+ᶠ◌ ◌/ᶠ◌ whole ratio at concrete_force concrete_moment
concrete_near x u y l k = record {
  most = record {
    le = sides (K * (C * (800 * x.h * (p * q + u * q * q) + x.m.l * (u * q * (u * q))))) (K * (C * (800 * x.h * (p * q + u * q * q) + x.m.l * (p * p))))
        (mul-le-mul_left K (mul-le-mul_left C (omega (arith, mul-le-mul_left x.m.l (mul-le-mul l l))))) (simp tidy (omega arith)) (simp tidy (omega arith));
  };
  least = record {
    le = sides (K * (C * (1600 * x.h * (u * q * q) + x.m.l * (p * p)))) (K * (C * (1600 * x.h * (p * q) + x.m.l * (u * q * (u * q)))))
        (mul-le-mul_left K (mul-le-mul_left C (omega (arith, exchange l k)))) (simp tidy (omega arith)) (simp tidy (omega arith));
  };
}
  where
    p : ℕ
    p = y.p

    q : ℕ
    q = y.q

    C : ℕ
    C = x.m.f * x.m.l * x.b

    K : ℕ
    K = 2 * 80000 * 80000 * 128000000 * y.q

-- ---- the section

module _ (x : Design) {u : Ratio} (pu : Positive u) where
  pub concrete-moment_proper : Proper (concrete_moment x u)
  unfolding concrete_moment
  concrete-moment_proper = search proper depth 8

  pub layer-moment_proper : (l : Layer) → Proper (layer_moment x l u)
  unfolding layer_moment
  layer-moment_proper l = let f = layer_proper x pu l in search proper

  steel-moment_proper : (ls : List Layer) → Proper (steel_moment x ls u)
  unfolding steel_moment
  steel-moment_proper [] = search proper
  steel-moment_proper (l ∷ ls) = +ᶠ-proper (layer-moment_proper l) (steel-moment_proper ls)

  pub moment_proper : (ls : List Layer) → Proper (unrounded_moment x ls u)
  unfolding unrounded_moment
  moment_proper ls = +ᶠ-proper concrete-moment_proper (steel-moment_proper ls)

module _ (x : Design) (u : ℕ) {y : Ratio} (pu : Positive (at u)) (py : Positive y) (h : ratio (at u) ≤ᶠ ratio y) where
  layer_near : (l : Layer) → l.depth ≤ x.h →
      DifferAtMost (share x.h 1 (layer_force x l (at u)) (layer_force x l y)) (layer_moment x l y) (integer (floor (layer_moment x l (at u))))
  layer_near l k =
      let fu = layer_proper x pu l in
      let fy = layer_proper x py l in
      let mu = layer-moment_proper x pu l in
      differ_trans {b = layer_moment x l (at u)} (search proper) (search proper) (layer-moment_proper x py l) mu (search proper)
      (unfold layer_moment in arm_near x.h l.depth k (layer_mono x pu py l h)) (floor_near (layer_moment x l (at u)) mu)

  steel_near : (ls : List Layer) → DepthsWithin x.h ls →
      DifferAtMost (share x.h (length ls) (steel_force x ls (at u)) (steel_force x ls y)) (steel_moment x ls y) (integer (steel_resistance x ls u))
  unfolding DepthsWithin steel_force steel_moment steel_resistance
  steel_near [] ok = unfold ◌*ᶠ◌ ◌-ᶠ◌ ◌+ᶠ◌ ◌/ᶠ◌ whole integer in omega arith
  steel_near (l ∷ ls) ok = rw (← one-add (length ls))
      (join x.h 1 (length ls) _ _ (layer_proper x pu l) (layer_proper x py l) (steel_proper x pu ls) (steel_proper x py ls)
      (layer-moment_proper x py l) (steel-moment_proper x py ls) (layer_near l ok.0) (steel_near ls ok.1))

pub moment_near : (x : Design) (ls : List Layer) (u : ℕ) {y : Ratio} → DepthsWithin x.h ls → x.m.l ≤ 64 → 1 ≤ u → Positive y
    → whole u ≤ᶠ ratio y → ratio y ≤ᶠ whole (10 * x.h)
    → DifferAtMost (share x.h (1 + length ls) (internal_force x ls (at u)) (internal_force x ls y)) (unrounded_moment x ls y)
    (integer (moment_resistance x ls u))
unfolding internal_force unrounded_moment moment_resistance
moment_near x ls u {y} ok l low py h high =
    let pu = at_positive u low in
    let cu = concrete_proper x pu in
    let cy = concrete_proper x py in
    let mu = concrete-moment_proper x pu in
    join x.h 1 (length ls) _ _ cu cy (steel_proper x pu ls) (steel_proper x py ls) (concrete-moment_proper x py) (steel-moment_proper x py ls)
    (differ_trans {b = concrete_moment x (at u)} (search proper) (search proper) (concrete-moment_proper x py) mu (search proper)
    (concrete_near x u y (unfold whole ratio in omega arith) (unfold whole ratio in omega (arith, mul-le-mul_right (y.p + u * y.q) l)))
    (floor_near (concrete_moment x (at u)) mu))
    (steel_near x u pu py (rw (at-whole u) h) ls ok)
