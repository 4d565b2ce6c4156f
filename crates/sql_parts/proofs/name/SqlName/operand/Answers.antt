use Rattle.std.proofs.Common.{rules, subst}
use Rattle.sql_parts.specs.Operands.{ServesAsOperand}
use Rattle.sql_parts.proofs.fragments.OperandFacts.{parts-serve}
use Rattle.sql_parts.proofs.name.SqlName.operand.Goals as goal

pub invariant_of-result : goal.invariant_of-result
invariant_of-result c = record { fits = subst ServesAsOperand (search rules) (parts-serve c.args.quotes c.args.self.now) }
