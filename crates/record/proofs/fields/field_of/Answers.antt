-- Past the table no bit has a field.
use native.Mathlib.Omega.{arith}
use Rattle.record.proofs.Table.{beyond}
use Rattle.record.proofs.fields.field_of.Goals as goal

pub returns-in_default : goal.returns-in_default
returns-in_default c =
    let k = c.args.k in
    beyond k (omega arith)
