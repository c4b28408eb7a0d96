-- The test is the definition.
use mathlib.Core.Path.{refl}
use Rattle.record.specs.Map.{only_fields}
use Rattle.record.proofs.map.only_fields.Goals as goal

pub returns : goal.returns
unfolding only_fields
returns c = refl
