-- The bytes copied, between those before them and those after.
use mathlib.Core.Path.{◌≡◌, ap, ap₂, ◌∙◌}
use mathlib.Core.List.{List, ◌++◌}
use Prim.Native.Nat.{ℕ, ◌+◌, ◌-◌}
use native.Mathlib.Omega.{arith}
use lib.ListN.{length, take, drop}
use lib.Seq.{drop-drop}
use Rattle.record.specs.Bytes.{placed}
use Rattle.record.proofs.bytes.put.Goals as goal

pub returns : goal.returns
unfolding placed
returns c =
    let at = c.args.at in
    let xs = c.args.buffer.now in
    let ys = c.args.bytes.now in
    let n : at + length ys - at ≡ length ys = omega arith in
    ap₂ (λ (ys : List ℕ) (n : ℕ). take at xs ++ (ys ++ drop n (drop at xs))) c.copy_from_slice.ensures.after n
    ∙ ap (λ (zs : List ℕ). take at xs ++ (ys ++ zs)) (drop-drop (length ys) at xs)
