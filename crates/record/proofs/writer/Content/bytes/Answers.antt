-- A number as std writes it.
use mathlib.Core.Path.{◌≡◌, sym, ap, ◌∙◌}
use mathlib.Core.List.{List}
use mathlib.Core.Logic.{⊎_elim}
use Prim.Native.Nat.{ℕ}
use lib.IntN.{ℤ}
use lib.Signed.{mag}
use Prim.Native.Nat.{◌<◌, ◌^◌}
use Rattle.std.specs.Int.{w64, to_be_bytes, cast_signed, cast_unsigned}
use Rattle.arith.proofs.Machine.{result}
use Rattle.record.specs.Bytes.{bytes_of, unsigned}
use Rattle.record.specs.Code.Content.{bytes_in}
use Rattle.record.proofs.Digits.{to_eight, cast-unsigned}
use Rattle.record.proofs.writer.Content.bytes.Goals as goal

-- the bytes of a number z that a call gave
of_call : {bs : List ℕ} {r z : ℤ} → mag r < 2 ^ 63 → r ≡ z → bs ≡ to_be_bytes w64 (cast_unsigned w64 (cast_signed w64 (cast_unsigned w64 r)))
    → bs ≡ bytes_of 8 (unsigned z)
of_call {r = r} {z} h e is =
    is ∙ ap (λ (x : ℤ). to_be_bytes w64 (cast_unsigned w64 x)) (result h e) ∙ to_eight (cast_unsigned w64 z) ∙ ap (bytes_of 8) (cast-unsigned z)

pub returns-in-Must : goal.returns-in-Must
returns-in-Must c =
    of_call c.number.type_inv c.number.ensures c.to_be_bytes.ensures
    ∙ ⊎_elim (λ e. ap (bytes_in c.args.self.now) (sym e)) (λ e. ap (bytes_in c.args.self.now) (sym e.1)) c.in-Must.is
