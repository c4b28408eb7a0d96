-- A list of bytes into which others are written. Assumes nothing.
use mathlib.Core.Path.{◌≡◌, sym, ap, ap₂, ◌∙◌}
use mathlib.Core.List.{List, [], ◌++◌, append_assoc}
use Prim.Native.Nat.{ℕ, ◌+◌, ◌≤◌}
use native.Mathlib.Nat.{add_assoc, add-zero}
use native.Mathlib.Omega.{arith}
use lib.ListN.{length, take, drop, length-append, length-drop, take-append-drop}
use lib.Seq.{length-take-le, take_at, drop-append-add, drop-drop}
use Rattle.record.specs.Bytes.{placed}

pub placed_none : (xs : List ℕ) (at : ℕ) → xs ≡ placed xs at []
unfolding placed
placed_none xs at = sym (ap (λ (k : ℕ). take at xs ++ drop k xs) (add-zero at) ∙ take-append-drop at xs)

pub length-placed : (xs : List ℕ) (at : ℕ) (ys : List ℕ) → at + length ys ≤ length xs → length (placed xs at ys) ≡ length xs
unfolding placed
length-placed xs at ys h = simp (length-append, length-drop, length-take-le at xs (omega arith)) (omega arith)

-- two writes one after the other are one
pub placed_more : (xs : List ℕ) (at : ℕ) (ys zs : List ℕ) → at + length ys ≤ length xs
    → placed (placed xs at ys) (at + length ys) zs ≡ placed xs at (ys ++ zs)
unfolding placed
placed_more xs at ys zs h =
    let P = take at xs ++ ys in
    let D = drop (at + length ys) xs in
    let n : length P ≡ at + length ys = length-append (take at xs) ys ∙ ap (λ (k : ℕ). k + length ys) (length-take-le at xs (omega arith)) in
    ap (λ (l : List ℕ). take (at + length ys) l ++ (zs ++ drop (at + length ys + length zs) l)) (sym (append_assoc (take at xs) ys D))
    ∙ ap₂ (λ (l r : List ℕ). l ++ (zs ++ r)) (take_at P D (at + length ys) n)
    (ap (λ (k : ℕ). drop (k + length zs) (P ++ D)) (sym n) ∙ drop-append-add P D (length zs) ∙ drop-drop (length zs) (at + length ys) xs
    ∙ ap (λ (k : ℕ). drop k xs) (add_assoc at (length ys) (length zs) ∙ ap (λ (k : ℕ). at + k) (sym (length-append ys zs))))
    ∙ append_assoc (take at xs) ys (zs ++ drop (at + length (ys ++ zs)) xs)
    ∙ ap (λ (l : List ℕ). take at xs ++ l) (sym (append_assoc ys zs (drop (at + length (ys ++ zs)) xs)))
