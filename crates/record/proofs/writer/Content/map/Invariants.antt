-- The bits below k stand that are written.
use mathlib.Core.Path.{◌≡◌}
use Rattle.record.specs.Map.{map_with}
use Rattle.record.specs.Fields.{field_of}
use Rattle.record.specs.Code.Content.{writes_in}
use Rattle.record.proofs.writer.Content.map.Given as goal

abbrev pub invariant-loop-k : goal.invariant-loop-k
invariant-loop-k l = l.map ≡ map_with (λ k. writes_in l.self (field_of k)) l.k
