-- A write by the answers of its tests. Assumes nothing.
use mathlib.Core.Path.{◌≡◌, sym, ap, ◌∙◌}
use mathlib.Core.Bool.{Bool, true, false}
use mathlib.Core.List.{List, [], ◌∷◌, ◌++◌, append_assoc}
use Prim.Native.Nat.{ℕ, ◌+◌, ◌≤◌}
use native.Mathlib.Nat.{zero-add}
use native.Mathlib.Omega.{arith}
use lib.Dec.{leb}
use lib.ListN.{length, drop}
use Rattle.std.specs.Prelude.{Option, None, Some, Result, Ok, Err}
use Rattle.std.specs.Option.{option_or}
use Rattle.refusals.specs.declared.Refusal.{Refusal}
use Rattle.refusals.specs.declared.Refusal.TheVariants.{BufferTooShort}
use Rattle.refusals.specs.Chain.{test, first_failing}
use Rattle.refusals.proofs.Chain.{first_of}
use Rattle.section.specs.Section.{Counted}
use Rattle.section.specs.Refusals.{section_tests, load_link_tests}
use Rattle.section.specs.declared.Links.{Links}
use Rattle.section.specs.declared.Load.{Load}
use Rattle.sequence.specs.Order.{sequenced_layers}
use Rattle.record.specs.Bytes.{bytes_of, placed}
use Rattle.record.specs.Map.{record_length}
use Rattle.record.specs.Layout.{map_of, fields, record_of}
use Rattle.record.specs.Refusals.{write_tests}
use Rattle.record.specs.Write.{written_as, written_of, buffer_of}
use Rattle.record.proofs.Digits.{length_bytes}
use Rattle.record.proofs.Lent.{placed_more}
use Rattle.record.proofs.Writing.{map_sequenced}

module _ (c : Counted) (links : Links) (l : Load) (buf : List ℕ) where
  abbrev k : Option Refusal
  k = first_failing (section_tests c ++ load_link_tests links l)

  -- what is written
  abbrev d : Counted
  d = sequenced_layers c

  abbrev fits : Bool
  fits = leb (record_length (map_of c links l)) (length buf)

  -- the tests of the section, the load and the links, then 25
  pub write-first : first_failing (write_tests c links l buf) ≡ option_or k (option_or (test BufferTooShort fits) None)
  unfolding write_tests
  write-first =
      ap first_failing (sym (append_assoc (section_tests c) (load_link_tests links l) (test BufferTooShort fits ∷ [])))
      ∙ first_of (section_tests c ++ load_link_tests links l) (test BufferTooShort fits ∷ [])

  -- what is answered, with the bytes of the buffer afterwards
  pub record Answered (r : Result ℕ Refusal) (after : List ℕ) : Type 0 where
    pub value : written_as r ≡ written_of c links l buf
    pub lent : after ≡ buffer_of c links l buf

  -- a test that fails, and that no byte changes
  refused_as : {r : Refusal} → first_failing (write_tests c links l buf) ≡ Some r → Answered (Err r) buf
  refused_as e = record { value = rw e; lent = rw e }

  pub by_tests : {r : Refusal} → k ≡ Some r → Answered (Err r) buf
  by_tests e = refused_as (write-first ∙ rw e)

  pub by_length : k ≡ None → fits ≡ false → Answered (Err BufferTooShort) buf
  by_length e h = refused_as (write-first ∙ rw (e, h))

  -- the map and the fields, written one after the other, are the record
  whole_record : 4 ≤ length buf
      → placed (placed buf 0 (bytes_of 4 (map_of d links l))) 4 (fields d links l) ≡ record_of d links l ++ drop (length (record_of d links l)) buf
  unfolding record_of placed
  whole_record h =
      let B = bytes_of 4 (map_of d links l) in
      let four : 4 ≡ 0 + length B = omega (arith, length_bytes 4 (map_of d links l)) in
      let room : 0 + length B ≤ length buf = omega arith in
      ap (λ (k : ℕ). placed (placed buf 0 B) k (fields d links l)) four
      ∙ placed_more buf 0 B (fields d links l) room
      ∙ ap (λ (k : ℕ). (B ++ fields d links l) ++ drop k buf) (zero-add (length (B ++ fields d links l)))

  -- none fails: the length, and the bytes of the section with its layers in sequence
  pub done : (m n : ℕ) → m ≡ map_of d links l → n ≡ record_length m → k ≡ None → fits ≡ true → 4 ≤ length buf
      → Answered (Ok n) (placed (placed buf 0 (bytes_of 4 m)) 4 (fields d links l))
  done m n em en e h four =
      let none : first_failing (write_tests c links l buf) ≡ None = write-first ∙ rw (e, h) in
      record { value = rw (none, en, em, map_sequenced c links l); lent = rw (none, em) (whole_record four) }
