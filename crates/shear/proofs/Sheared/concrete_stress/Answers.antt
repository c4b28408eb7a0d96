-- The products are small by the bounds of K, r and q.
use Prim.Native.Nat.{ℕ, ◌≤◌}
use mathlib.Core.Path.{◌≡◌, refl}
use native.Mathlib.Nat.{mul-le-mul}
use native.Mathlib.Omega.{arith}
use Rattle.shear.specs.Shear.{v}
use Rattle.shear.specs.SizeFactor.{K}
use Rattle.shear.proofs.Roots.{K-high, r-high, q-high}
use Rattle.shear.proofs.Sheared.concrete_stress.Goals as goal

k-high : {k : ℕ} (dm : ℕ) → k ≡ K dm → k ≤ 2000
k-high dm e = rw e (K-high dm)

pub overflow_mul-stress : goal.overflow_mul-stress
overflow_mul-stress c = omega (arith, mul-le-mul c.self.invariant.crd-high (k-high _ c.size_factor-k.ensures))

pub overflow_mul-stress-2 : goal.overflow_mul-stress-2
overflow_mul-stress-2 c =
    let x = c.args.self.now in
    let root : c.ratio_root.result ≤ 5646 = rw c.ratio_root.ensures (r-high x.b x.fck x.As x.dm) in
    omega (arith, mul-le-mul (mul-le-mul c.self.invariant.crd-high (k-high _ c.size_factor-k.ensures)) root)

pub least_root-requires : goal.least_root-requires
least_root-requires c = (c.self.invariant.stress.fck_high, k-high _ c.size_factor-k.ensures)

pub overflow_mul-least_root : goal.overflow_mul-least_root
overflow_mul-least_root c = rw c.least_root.ensures (omega (arith, q-high c.self.inside.fck c.size_factor-k.result))

pub returns : goal.returns
unfolding v
returns c =
    rw (c.max.ensures, c.least_root.ensures, c.ratio_root.ensures, c.size_factor-k.ensures, ← c.self.view_is) refl
