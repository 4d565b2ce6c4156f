use Rattle.std.proofs.Common.{◌∙◌}
use Rattle.sql_typed.proofs.WholeLemmas.{serves_whole}
use Rattle.sql_typed.proofs.printed.Printed.with.Goals as goal

pub followed-requires-clause-text : goal.followed-requires-clause-text
followed-requires-clause-text g c = serves_whole (c.as_str.ensures.value ∙ c.in_ok-operand.ensures.text) (g.met.F.OperandText.serves_as_operand c.args.operand)
