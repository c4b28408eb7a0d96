-- What a reader gave in several reads, and what a writer took in several writes, where their bytes are known.
use Rattle.std.proofs.Common.{◌≡◌, ℕ, ◌+◌, ◌≤◌, List, ◌++◌, Option, length, take, drop}
use Rattle.std.proofs.Common.{sym, ap, ap₂, ◌∙◌, subst, length-take-le, drop_at, le_refl}
use Rattle.std.specs.Io.KnownBytes.{Appends, Consumes}
use Rattle.std.proofs.KnownBytes.{Appends-trans, Consumes-trans}
use Rattle.std.proofs.lemmas.Slice.{take-put_mid_below}
use borrow.Rule.Slice.PartMut.{put_mid, post_of}
use lib.Seq.{take-add, take-append-le}

-- k more bytes were read, into the part of the buffer from n on
pub read_more : (a b c : Option (List ℕ)) (n room k : ℕ) (xs ys : List ℕ) → n ≤ length xs → k ≤ length ys
    → Consumes a b (take n xs) → Consumes b c (take k ys) → Consumes a c (take (n + k) (put_mid n room xs ys))
read_more a b c n room k xs ys within fits p q =
    let whole = put_mid n room xs ys in
    let front : take n whole ≡ take n xs = take-put_mid_below n room xs ys n (le_refl n) within in
    let part : take k (drop n whole) ≡ take k ys =
    ap (take k) (drop_at (take n xs) (ys ++ post_of n room xs) n (length-take-le n xs within)) ∙ take-append-le k ys (post_of n room xs) fits in
    subst (Consumes a c) (sym (take-add n k whole ∙ ap₂ (λ (l r : List ℕ). l ++ r) front part)) (Consumes-trans a b c (take n xs) (take k ys) p q)

-- k more bytes were written, of those that are left
pub wrote_more : (a b c : Option (List ℕ)) (done k : ℕ) (xs : List ℕ) → Appends a b (take done xs)
    → Appends b c (take k (drop done xs)) → Appends a c (take (done + k) xs)
wrote_more a b c done k xs p q = subst (Appends a c) (sym (take-add done k xs)) (Appends-trans a b c (take done xs) (take k (drop done xs)) p q)
