-- The other clauses from the first.
use mathlib.Core.Path.{◌∙◌}
use Rattle.record.proofs.Ignored.{read_clauses}
use Rattle.record.proofs.reader.read.Goals as goal

pub returns-clause-refusal : goal.returns-clause-refusal
returns-clause-refusal c = (read_clauses c.args.bytes.now (c.from.ensures ∙ c.record_in.ensures)).1.0

pub returns-clause-rest_ignored : goal.returns-clause-rest_ignored
returns-clause-rest_ignored c = (read_clauses c.args.bytes.now (c.from.ensures ∙ c.record_in.ensures)).1.1
