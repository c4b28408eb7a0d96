-- The same of a section as the code holds it, with its sixteen places. No sentence of document 02 stands here. Assumes nothing.
use Rattle.std.specs.Prelude.{ℕ, ◌+◌, ◌-◌, ◌^◌, cond, eqb, min, set}
use Rattle.section.specs.declared.Layer.{Layer}
use Rattle.section.specs.declared.Section.{Section}

-- one of the sixteen places is written, or none where there is no such place; a number that is the greatest of its type stays
abbrev pub with_layer : ℕ → Layer → Section → Section
with_layer place l s =
    record {
      layers = set s.layers place l;
      width = s.width;
      height = s.height;
      grade = s.grade;
      links = s.links;
      count = cond (eqb place s.count) (min (s.count + 1) (2 ^ 64 - 1)) s.count;
    }
