use Rattle.std.proofs.Common.{◌≡◌, map, take}
use Rattle.sql_typed.proofs.clauses.listed.Given as goal

abbrev pub invariant-loop-operand : goal.invariant-loop-operand
invariant-loop-operand g l = l.list ≡ map g.F.ToText.text (take l.operand-index l.operands)
