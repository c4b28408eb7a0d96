-- How many bytes a record has, and how large its refusal is: all that this crate knows of the reader. Assumes nothing.
use mathlib.Core.Path.{◌≡◌, ap}
use mathlib.Core.Bool.{false, not}
use mathlib.Core.List.{List}
use Prim.Native.Nat.{ℕ, ◌≤◌, ◌<◌}
use native.Mathlib.Omega.{arith}
use lib.ListN.{length}
use Rattle.record.specs.declared.Reading.{Reading}
use Rattle.record.specs.Read.{read_of}
use Rattle.record.proofs.Readings.{read_named, length_most, read_long, refusal_small}
use Rattle.listing.specs.Records.{ends}

-- those that are there; at least 4 where the list goes on; at least 36 where it is read, map, b, h, fck and fyk. Refusals have three digits.
pub record Span (xs : List ℕ) (r : Reading) : Type 0 where
  pub high : r.length ≤ length xs
  pub low : ends r.refusal ≡ false → 4 ≤ r.length
  pub read : r.refusal ≡ 0 → 36 ≤ r.length
  pub small : r.refusal < 256

-- the list goes on where the reader answers the length
pub span : (xs : List ℕ) → Span xs (read_of xs)
span xs =
    record {
      high = length_most xs;
      low = λ e. omega (arith, (read_named xs (ap not e)).is);
      read = read_long xs;
      small = refusal_small xs;
    }
