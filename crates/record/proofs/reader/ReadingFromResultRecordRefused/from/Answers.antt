-- A refusal is answered with zeros.
use mathlib.Core.List.{[]}
use mathlib.Core.Path.{◌≡◌, sym, ap, ap₂, ◌∙◌}
use Prim.Native.Nat.{ℕ}
use lib.IntN.{ℤ, pos}
use Rattle.section.specs.declared.Load.{Load}
use Rattle.section.specs.Section.{no_links}
use Rattle.record.specs.declared.Reading.{Reading}
use Rattle.record.specs.Contents.{filled, section_with, load_with}
use Rattle.record.specs.Read.{refused_reading}
use Rattle.record.specs.Code.Answer.{reading_as}
use Rattle.record.proofs.reader.ReadingFromResultRecordRefused.from.Goals as goal

-- three zeros are the load that is answered
no_load : (l : Load) → (l.n ≡ pos 0) × ((l.m ≡ pos 0) × (l.v ≡ pos 0)) → l ≡ load_with (λ bit. pos 0)
no_load l zeros =
    ap (λ (n : ℤ). record { n = n; m = l.m; v = l.v }) zeros.0
    ∙ ap₂ (λ (m v : ℤ). record { n = pos 0; m = m; v = v }) zeros.1.0 zeros.1.1

pub returns-in-Err : goal.returns-in-Err
unfolding refused_reading filled
returns-in-Err c =
    let zeros : ℕ → Reading = λ r.
    record { refusal = r; length = c.in-Err.refused.length; section = section_with (λ bit. pos 0) no_links []; load = load_with (λ bit. pos 0) } in
    rw (c.no_section.ensures, no_load c.default.result c.default.ensures) (ap zeros c.number.ensures ∙ ap reading_as (sym c.in-Err.is))
