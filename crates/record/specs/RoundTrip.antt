-- What reading back a written record yields, demand 2: document 01, "What the engine covers" and "The record"; 02's tickets 3, 6, 8 and
-- 10. Assumes nothing.
use Rattle.std.specs.Prelude.{ℕ, List, ◌≡◌}
use Rattle.section.specs.Section.{layers_of, links_of}
use Rattle.section.specs.declared.Section.{Section}
use Rattle.section.specs.declared.Load.{Load}
use Rattle.sequence.specs.Order.{sorted}
use Rattle.record.specs.declared.Reading.{Reading}
use Rattle.record.specs.declared.Written.{Written}
use Rattle.record.specs.Contents.{filled}
use Rattle.record.specs.Read.{read_of}

-- the same section, its counted layers in their sequence on disk, with zeros beyond the count; the same links, absent ones with zeros
abbrev pub cleared : Section → Section
cleared s =
    record { layers = filled (sorted (layers_of s)); width = s.width; height = s.height; grade = s.grade; links = links_of s; count = s.count }

-- no refusal, the length n, that section and the same load
abbrev pub read_back : Section → Load → ℕ → Reading
read_back s l n = record { refusal = 0; length = n; section = cleared s; load = l }

-- a write that answers no refusal leaves a buffer of which that is read
abbrev pub ReadsBack : Section → Load → Written → List ℕ → Type 0
ReadsBack s l r buf = r.refusal ≡ 0 → read_of buf ≡ read_back s l r.length
