-- Bytes after the record are ignored: what is read of its own bytes does not depend on what follows. Assumes nothing.
use mathlib.Core.Path.{◌≡◌, refl, sym, ap, ap₂, ◌∙◌, subst}
use mathlib.Core.Bool.{Bool, true, false, cond}
use mathlib.Core.List.{List, [], ◌∷◌, ◌++◌}
use Prim.Native.Nat.{ℕ, zero, suc, ◌+◌, ◌*◌, ◌≤◌, ◌<◌}
use native.Mathlib.Nat.{le_refl, le_of_lt}
use native.Mathlib.Omega.{arith}
use borrow.Author.Tests.{le-leb}
use lib.IntN.{pos}
use lib.ListN.{length, take, length-append, get_or-append}
use lib.Seq.{length-take-le, get_or-take}
use Rattle.refusals.specs.Number.{number_or_0}
use Rattle.refusals.specs.Chain.{first_failing}
use Rattle.section.specs.Section.{no_links, links_with}
use Rattle.section.specs.declared.Layer.{Layer}
use Rattle.record.specs.declared.Reading.{Reading}
use Rattle.record.specs.Bytes.{number_at, signed}
use Rattle.record.specs.Map.{stands, offset, record_length, only_fields, complete}
use Rattle.record.specs.Fields.{field_of, link_bit, layer_bit, is_number, missing}
use Rattle.record.specs.Contents.{number_of, links_at, links_in, layer_at, layers_to, section_with, load_with, section_of, load_of}
use Rattle.record.specs.Refusals.{map_in, read_tests}
use Rattle.record.specs.Read.{read_of, RestIgnored}
use Rattle.record.proofs.Bits.{room}
use Rattle.record.proofs.Readings.{tests_of, chosen, read_refusal, read_named}
use Rattle.record.proofs.Table.{within}

-- n first bytes of xs, and any others
module _ (xs ys : List ℕ) (n : ℕ) (h : n ≤ length xs) where
  abbrev kept : List ℕ
  kept = take n xs ++ ys

  kept_long : n ≤ length kept
  kept_long = omega (arith, length-append (take n xs) ys, length-take-le n xs h)

  number_same : (at k : ℕ) → at + k ≤ n → number_at kept at k ≡ number_at xs at k
  unfolding number_at
  number_same at zero g = refl
  number_same at (suc k) g =
      let there : at + k < length (take n xs) = omega (arith, length-take-le n xs h) in
      ap₂ (λ (a b : ℕ). a * 256 + b) (number_same at k (omega arith))
      (get_or-append (take n xs) ys 0 (at + k) there ∙ get_or-take n xs (at + k) 0 (omega arith))

-- what a record holds, where it is there whole
module _ (xs ys : List ℕ) (m : ℕ) (h : record_length m ≤ length xs) where
  abbrev X : List ℕ
  X = kept xs ys (record_length m) h

  same : (at k : ℕ) → at + k ≤ record_length m → number_at X at k ≡ number_at xs at k
  same = number_same xs ys (record_length m) h

  numbers_same : (k : ℕ) → number_of X m k ≡ number_of xs m k
  numbers_same k = go (is_number (field_of k)) (stands m k) refl refl
    where
      go : (t u : Bool) → is_number (field_of k) ≡ t → stands m k ≡ u
          → cond t (cond u (signed (number_at X (offset m k) 8)) (missing (field_of k))) (pos 0)
          ≡ cond t (cond u (signed (number_at xs (offset m k) 8)) (missing (field_of k))) (pos 0)
      go true true e f =
          let low : k < 32 = omega (arith, within k e) in
          ap signed (same (offset m k) 8 (room m k (record_length m) low f (le_refl (record_length m))))
      go true false e f = refl
      go false u e f = refl

  links_same : links_in X m ≡ links_in xs m
  links_same = go (stands m link_bit) refl
    where
      go : (t : Bool) → stands m link_bit ≡ t → cond t (links_at X (offset m link_bit)) no_links ≡ cond t (links_at xs (offset m link_bit)) no_links
      go true e =
          let at = offset m link_bit in
          let r : at + 8 ≤ record_length m = room m link_bit (record_length m) (omega arith) e (le_refl (record_length m)) in
          ap₂ links_with (same at 4 (omega arith)) (same (at + 4) 4 (omega arith))
      go false e = refl

  layers_same : (j : ℕ) → j ≤ 16 → layers_to X m j ≡ layers_to xs m j
  unfolding layers_to
  layers_same zero g = refl
  layers_same (suc j) g = ap₂ (λ (a b : List Layer). a ++ b) (layers_same j (le_of_lt g)) (go (stands m (layer_bit j)) refl)
    where
      go : (t : Bool) → stands m (layer_bit j) ≡ t
          → cond t (layer_at X (offset m (layer_bit j)) ∷ []) [] ≡ cond t (layer_at xs (offset m (layer_bit j)) ∷ []) []
      go true e =
          let at = offset m (layer_bit j) in
          let r : at + 8 ≤ record_length m = room m (layer_bit j) (record_length m) (omega arith) e (le_refl (record_length m)) in
          let d = same at 4 (omega arith) in
          let a = same (at + 4) 4 (omega arith) in
          rw (d, a)
      go false e = refl

  section_same : section_of xs m ≡ section_of X m
  unfolding section_of
  section_same = sym (λ i. section_with (λ k. numbers_same k i) (links_same i) (layers_same 16 (le_refl 16) i))

  load_same : load_of xs m ≡ load_of X m
  unfolding load_of
  load_same = sym (λ i. load_with (λ k. numbers_same k i))

whole_ignored : (xs ys : List ℕ) → record_length (map_in xs) ≤ length xs → read_of (take (record_length (map_in xs)) xs ++ ys) ≡ read_of xs
whole_ignored xs ys h =
    let m = map_in xs in
    let X = kept xs ys (record_length m) h in
    let long = kept_long xs ys (record_length m) h in
    let map_same = sym (number_same xs ys (record_length m) h 0 4 (omega arith)) in
    let s = section_of xs m in
    let l = load_of xs m in
    sym (chosen X true (only_fields m) true (complete m) (tests_of s l) map_same (section_same xs ys m h) (load_same xs ys m h)
    (sym (le-leb 4 (length X) (omega arith))) refl (sym (le-leb (record_length m) (length X) long)) refl refl)
    ∙ chosen xs true (only_fields m) true (complete m) (tests_of s l) refl refl refl
    (sym (le-leb 4 (length xs) (omega arith))) refl (sym (le-leb (record_length m) (length xs) h)) refl refl

pub rest_ignored : (xs : List ℕ) → RestIgnored xs (read_of xs)
rest_ignored xs e ys =
    let n = read_named xs e in
    ap (λ (n : ℕ). read_of (take n xs ++ ys)) n.is ∙ whole_ignored xs ys n.whole

-- the other clauses of `read` follow from its first
pub read_clauses : (xs : List ℕ) {r : Reading} → r ≡ read_of xs
    → (r ≡ read_of xs) × ((r.refusal ≡ number_or_0 (first_failing (read_tests xs))) × RestIgnored xs r)
read_clauses xs {r} e = (e, (ap (λ (r : Reading). r.refusal) e ∙ read_refusal xs, subst (RestIgnored xs) (sym e) (rest_ignored xs)))
