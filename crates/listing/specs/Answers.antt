-- What is answered where the list is put into a lent buffer: its length, or 25 where the buffer is too short. Assumes nothing.
use Rattle.std.specs.Prelude.{ℕ, cond, List, leb, length}
use Rattle.record.specs.declared.Written.{Written}
use Rattle.record.specs.Bytes.{placed}
use Rattle.listing.specs.Code.Buffer.{room_for}
use Rattle.listing.specs.Records.{list_of}

-- A text at the start of a buffer: the number of its bytes; 25 where the buffer has fewer than `room`.
abbrev pub text_written : ℕ → List ℕ → List ℕ → Written
text_written room text buffer = cond (leb room (length buffer)) (record { refusal = 0; length = length text }) (record { refusal = 25; length = 0 })

-- The buffer afterwards: as many first bytes are changed, and no others; none for 25.
abbrev pub text_buffer : ℕ → List ℕ → List ℕ → List ℕ
text_buffer room text buffer = cond (leb room (length buffer)) (placed buffer 0 text) buffer

-- The list of an input. The room asked is that of any list of so many bytes, so that a caller can know it beforehand.
abbrev pub list_written : List ℕ → List ℕ → Written
list_written input buffer = text_written (room_for (length input)) (list_of input) buffer

abbrev pub list_buffer : List ℕ → List ℕ → List ℕ
list_buffer input buffer = text_buffer (room_for (length input)) (list_of input) buffer
