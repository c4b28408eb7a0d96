-- How large the numbers become beyond 10h. Assumes nothing.
use Prim.Native.Nat.{ℕ, ◌-◌, ◌*◌, ◌≤◌, ◌<◌}
use mathlib.Core.Bool.{Bool, true, false, cond}
use mathlib.Core.Path.{◌≡◌, refl}
use native.Mathlib.Nat.{mul-le-mul, mul-le-mul_left, le_trans, div-le_of_le-mul}
use native.Mathlib.Omega.{arith}
use borrow.Author.Tests.{leb-false}
use lib.Dec.{lit≤}
use lib.IntN.{pos, ◌-ℤ◌}
use Rattle.arith.specs.Fraction.{floor}
use Rattle.arith.specs.Integer.{Within}
use Rattle.arith.proofs.Bound.{lit, mul_in, up_to, between}
use Rattle.arith.proofs.Floor.{floor_within}
use Rattle.arith.proofs.Ring.{#, ◌⊝◌, ⊖, le! }
use Rattle.section.specs.declared.Layer.{Layer}
use Rattle.section.specs.declared.Design.{Design}
use Rattle.section.specs.Code.Usable.{Bounded, LayerOk}
use Rattle.beyond.specs.Force.{layer_moment}
use Rattle.beyond.specs.Code.Range.{Beyond}
use Rattle.beyond.specs.Code.Whole.{concrete_newtons, under, rise, yields, held_share, free_share, share_of, layer_newtons}
use Rattle.beyond.proofs.Moves.{under_is}
use Rattle.beyond.proofs.Whole.{concrete-whole, share-low, layer-whole, moment-whole}

-- what stands below the line
pub record Line (x : Design) (u : ℕ) : Type 0 where
  pub depth : u ≤ 60000
  pub line : x.m.e * u ≤ 42000000
  pub taken : 10 * (x.m.e - x.m.d) * x.h ≤ x.m.e * u
  pub low : 1 ≤ under x u
  pub high : under x u ≤ 42000000

pub line_sizes : {x : Design} {u : ℕ} → Bounded x → Beyond x u → Line x u
line_sizes {x} {u} b d =
    let depth : u ≤ 60000 = omega (arith, d.high, b.h-high) in
    let line = mul-le-mul b.materials.E-high depth in
    let n = under_is x (omega (arith, b.materials.E-low)) d.low in
    record { depth = depth; line = line; taken = omega (arith, n.is); low = n.positive; high = omega (arith, n.is, line) }

-- and above it
pub record Rise (x : Design) (d u : ℕ) : Type 0 where
  pub product : x.m.d * x.m.e ≤ 322000
  pub above : rise x d u ≤ 19320000000

pub rise_sizes : {x : Design} {d u : ℕ} → Bounded x → Beyond x u → Rise x d u
rise_sizes {x} {d} {u} b w =
    let left : u - 10 * d ≤ 60000 = omega (arith, (line_sizes b w).depth) in
    let product = mul-le-mul b.materials.D-high b.materials.E-high in
    record { product = product; above = mul-le-mul product left }

-- the concrete's force
pub concrete-most : (x : Design) (u : ℕ) → Bounded x → concrete_newtons x u ≤ 240000000
unfolding concrete_newtons
concrete-most x u b =
    let strength = mul-le-mul b.materials.f-high b.b-high in
    let product = mul-le-mul {m₂ = 1600000} strength (omega (arith, b.h-high)) in
    div-le_of_le-mul 80000 (le_trans product (lit≤ tt))

-- where the stress is not held, the force is less than A·s/100
less_than_held : (a s r o : ℕ) → 100 * r < s * o → a * s ≤ 1200000000 → a * r ≤ 12000000 * o
less_than_held a s r o h k =
    let l : 100 * r ≤ s * o = omega arith in
    let m = mul-le-mul_left a l in
    let n = mul-le-mul_left o k in
    omega arith

module _ {x : Design} {l : Layer} {u : ℕ} (b : Bounded x) (d : Beyond x u) (ok : LayerOk x.h l) where
  strength : l.area * x.m.s ≤ 1200000000
  strength = mul-le-mul ok.area-high b.materials.s-high

  p_from : (t : Bool) → (cond t (held_share x l) (free_share x l u)).p ≤ 386400000000000
  p_from true = le_trans strength (lit≤ tt)
  p_from false = mul-le-mul ok.area-high (rise_sizes {d = l.depth} b d).above

  pub share-above : (share_of x l u).p ≤ 386400000000000
  unfolding share_of
  share-above = p_from (yields x l.depth u)

  q-from : (t : Bool) → (cond t (held_share x l) (free_share x l u)).q ≤ 42000000
  q-from true = lit≤ tt
  q-from false = (line_sizes b d).high

  pub share_beneath : (share_of x l u).q ≤ 42000000
  unfolding share_of
  share_beneath = q-from (yields x l.depth u)

  -- the stress is held, so the force is at most A·s/100
  ratio-from : (t : Bool) → yields x l.depth u ≡ t
      → (cond t (held_share x l) (free_share x l u)).p ≤ 12000000 * (cond t (held_share x l) (free_share x l u)).q
  ratio-from true e = strength
  ratio-from false e =
      let lt : 100 * rise x l.depth u < x.m.s * under x u = leb-false _ _ e in
      less_than_held l.area x.m.s (rise x l.depth u) (under x u) lt strength

  share-ratio : (share_of x l u).p ≤ 12000000 * (share_of x l u).q
  unfolding share_of
  share-ratio = ratio-from (yields x l.depth u) refl

  pub layer-most : layer_newtons x l u ≤ 12000000
  unfolding layer_newtons
  layer-most = div-le_of_le-mul (share_of x l u).q (omega (arith, share-ratio))

  arm_in : Within (pos x.h -ℤ pos (2 * l.depth)) 2000
  arm_in =
      let arm = # (pos x.h) ⊝ # (pos (2 * l.depth)) in
      between 2000 (le! (⊖ (# (pos 2000))) arm (omega (arith, ok.depth_high, b.h-high))) (le! arm (# (pos 2000)) (omega (arith, b.h-high)))

  -- sixteen products of the moment would not fit, sixteen moments do
  pub layer-moment-in : Within (floor (layer_moment x l u)) 12000000000
  layer-moment-in =
      rw (moment-whole x l b d ok)
      (floor_within _ (2 * (share_of x l u).q) 12000000000 (omega (arith, share-low x l b d ok))
      (up_to (mul_in (lit (pos (share_of x l u).p)) arm_in) (omega (arith, share-ratio))))

-- what the code of a force rests on
pub ruleset concrete_facts = (concrete-whole, concrete-most)

pub ruleset layer_facts = (share-low, layer-whole, layer-most)

pub ruleset share_facts = (share-low, share-above, share_beneath)
