-- Where the two pages meet: at u = 10h the stress beyond 10h is the one up to it. Assumes nothing.
use Prim.Native.Nat.{ℕ, ◌+◌, ◌-◌, ◌*◌, ◌≤◌, ◌<◌}
use mathlib.Core.Path.{◌≡◌, ap}
use native.Mathlib.Nat.{mul-pos}
use native.Mathlib.Omega.{arith}
use Rattle.arith.specs.Fraction.{Fraction, Proper, whole, ratio, ◌-ᶠ◌, ◌*ᶠ◌, ◌/ᶠ◌, ◌÷ᶠ◌, Same}
use Rattle.arith.proofs.Fraction.{tidy, proper, Positive, bounds, held_mono, same_most, same_least, same_of}
use Rattle.section.specs.declared.Layer.{Layer}
use Rattle.section.specs.declared.Design.{Design}
use Rattle.section.specs.Code.Usable.{Bounded}
use Rattle.beyond.specs.Force as beyond
use Rattle.beyond.specs.Code.Whole.{under}
use Rattle.beyond.proofs.Moves.{free, below_is, stress_is}
use Rattle.equilibrium.specs.Force.{at, stress}
use Rattle.equilibrium.proofs.Rising.{at_positive}

-- E·10h − 10·(E − D)·h is 10·D·h, as D is at most E
under_at : (e d h : ℕ) → d ≤ e → e * (10 * h) - 10 * (e - d) * h ≡ 10 * d * h
under_at e d h l =
    let e-is : e ≡ d + (e - d) = omega arith in
    let m = ap (λ (t : ℕ). t * (10 * h)) e-is in
    omega (arith, m)

module _ (x : Design) (l : Layer) (b : Bounded x) where
  abbrev here : Fraction
  here = whole x.m.e *ᶠ (ratio (at (10 * x.h)) -ᶠ whole (10 * l.depth)) ÷ᶠ at (10 * x.h)

  line : under x (10 * x.h) ≡ 10 * x.m.d * x.h
  line = under_at x.m.e x.m.d x.h b.materials.D-most

  free_same : Same here (free x l (10 * x.h))
  unfolding whole ratio at ◌*ᶠ◌ ◌-ᶠ◌ ◌/ᶠ◌ ◌÷ᶠ◌
  free_same = rw (below_is x (10 * x.h), line) (record { same = simp tidy (omega arith) })

  here_proper : Proper here
  here_proper = let p = at_positive (10 * x.h) (omega (arith, b.h-low)) in search proper

  there_proper : Proper (free x l (10 * x.h))
  there_proper =
      let low : 0 < 10 * x.m.d * x.h = mul-pos (mul-pos (omega arith) b.materials.D-low) (omega (arith, b.h-low)) in
      let p : Positive (beyond.below_point x (10 * x.h)) = rw (below_is x (10 * x.h), line) (record { p_pos = low; q-pos = omega arith }) in
      search proper

  pub same_stress : Same (stress x l (at (10 * x.h))) (beyond.stress x l (10 * x.h))
  unfolding stress
  same_stress = rw (stress_is x l (10 * x.h))
      (same_of (held_mono here_proper there_proper (bounds x.m.s 100) (same_most free_same))
      (held_mono there_proper here_proper (bounds x.m.s 100) (same_least free_same)))
