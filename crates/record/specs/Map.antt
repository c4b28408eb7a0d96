-- The bit map: document 01, "The record". Assumes nothing.
use Rattle.std.specs.Prelude.{ℕ, zero, suc, ◌+◌, ◌*◌, ◌/◌, ◌%◌, ◌^◌, Bool, true, cond, not, ◌&&◌, ◌||◌, eqb}
use Rattle.record.specs.Fields.{width, field_of, must_stand}

-- does bit k of the map m stand?
abbrev pub stands : ℕ → ℕ → Bool
stands m k = eqb (m / 2 ^ k % 2) 1

-- the number of bits below k that stand
unfoldable pub standing : ℕ → ℕ → ℕ
standing m zero = 0
standing m (suc k) = standing m k + m / 2 ^ k % 2

-- a 4-byte map comes first, then 8 bytes for each bit that stands, lowest bit first: where the bytes of bit k begin
abbrev pub offset : ℕ → ℕ → ℕ
offset m k = 4 + 8 * standing m k

-- the length is 4 plus 8 times the number of bits that stand
abbrev pub record_length : ℕ → ℕ
record_length m = 4 + 8 * standing m 32

-- the map in which those bits below k stand that p says
unfoldable pub map_with : (ℕ → Bool) → ℕ → ℕ
map_with p zero = 0
map_with p (suc k) = map_with p k + cond (p k) (2 ^ k) 0

-- only bits stand that have a field: every bit of the table has one, and none from its width on
unfoldable pub only_fields : ℕ → Bool
only_fields m = eqb (m / 2 ^ width) 0

-- the bits below k that must stand do
unfoldable pub complete_to : ℕ → ℕ → Bool
complete_to m zero = true
complete_to m (suc k) = (not (must_stand (field_of k)) || stands m k) && complete_to m k

-- bits 0 to 3 must stand
unfoldable pub complete : ℕ → Bool
complete m = complete_to m width
