-- The products fit, and the comparison is that of the squares.
use Prim.Native.Nat.{◌*◌, ◌≤◌}
use native.Mathlib.Nat.{mul-le-mul, le_refl}
use native.Mathlib.Omega.{arith}
use Rattle.links.specs.Links.{Truss}
use Rattle.links.specs.Code.Ranges.{TrussBounds}
use Rattle.links.proofs.Whole.{concrete, steel, ratio_is}
use Rattle.links.proofs.Truss.ratio_ok.Goals as goal

-- what is multiplied, step by step
module _ (x : Truss) (w : TrussBounds x) where
  steel-high : steel x ≤ 3000000
  steel-high = mul-le-mul w.area-high w.fyk_high

  concrete-high : concrete x ≤ 2000000
  concrete-high = mul-le-mul w.spacing_high w.b-high

  steel-square : steel x * steel x ≤ 9000000000000
  steel-square = mul-le-mul steel-high steel-high

  concrete-square : concrete x * concrete x ≤ 4000000000000
  concrete-square = mul-le-mul concrete-high concrete-high

  least-high : 4 * x.fck * (concrete x * concrete x) ≤ 1440000000000000
  least-high = mul-le-mul (mul-le-mul (le_refl 4) w.fck_high) concrete-square

pub overflow_mul-result-3 : goal.overflow_mul-result-3
overflow_mul-result-3 c = omega (arith, least-high _ c.self.invariant)

pub overflow_mul-result-5 : goal.overflow_mul-result-5
overflow_mul-result-5 c = omega (arith, steel-square _ c.self.invariant)

pub returns : goal.returns
returns c = rw (← c.self.view_is) (ratio_is _)
