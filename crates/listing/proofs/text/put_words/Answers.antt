-- Writing the words that are left finishes the text.
use mathlib.Core.Path.{◌≡◌, ap, ◌∙◌, sym}
use mathlib.Core.List.{List, [], ◌∷◌, ◌++◌, map}
use Prim.Native.Nat.{ℕ, ◌+◌, ◌<◌}
use native.Mathlib.Numerals.{add-one}
use lib.ListN.{length, drop, get_or, drop_of_length-le}
use lib.Seq.{drop-cons}
use Rattle.listing.specs.Text.{natural}
use Rattle.listing.specs.Line.{spaced}
use Rattle.listing.proofs.Finishing.{next_in, finished, has_room}
use Rattle.listing.proofs.text.put_words.Invariants.{from}
use Rattle.listing.proofs.text.put_words.Goals as goal

-- the first of the words from i on
one : (numbers : List ℕ) (i : ℕ) → i < length numbers → from numbers i ≡ (32 ∷ natural (get_or numbers i 0)) ++ from numbers (i + 1)
one numbers i h =
    ap (λ (l : List ℕ). spaced (map natural l) [])
    (drop-cons numbers i 0 h ∙ ap (λ (k : ℕ). get_or numbers i 0 ∷ drop k numbers) (sym (add-one i)))

pub put_word-next-requires : goal.put_word-next-requires
put_word-next-requires c =
    let ns = c.args.numbers.now in
    let i = c.loop-n.n-index in
    has_room (32 ∷ natural (get_or ns i 0)) (from ns (i + 1)) c.requires (rw (one ns i c.loop-n-test.true) at c.loop-n.invariant)

pub loop-n-preserved : goal.loop-n-preserved
loop-n-preserved c =
    let ns = c.args.numbers.now in
    let part = rw (one ns c.loop-n.n-index c.loop-n-test.true) at c.loop-n.invariant in
    next_in (from ns (c.loop-n.n-index + 1)) c.requires part c.put_word-next.ensures

pub returns : goal.returns
returns c =
    let l = c.loop-n in
    let numbers = c.args.numbers.now in
    let none : drop l.n-index numbers ≡ [] = drop_of_length-le numbers c.loop-n-test.false in
    finished (rw (ap (λ (ms : List ℕ). spaced (map natural ms) []) none) at l.invariant)
