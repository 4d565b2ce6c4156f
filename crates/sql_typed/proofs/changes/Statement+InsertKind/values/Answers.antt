use Rattle.sql_typed.proofs.Imports.{operands_balanced}
use Rattle.sql_typed.proofs.changes.Statement+InsertKind.values.Goals as goal

pub with_values-requires : goal.with_values-requires
with_values-requires g c = record { fits = operands_balanced g.V.ToText.text g.met.V.OperandText.serves_as_operand c.args.values.now }
