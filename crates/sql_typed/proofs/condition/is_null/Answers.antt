use Rattle.std.proofs.Common.{◌∙◌, refl}
use Rattle.sql_typed.proofs.ConditionLemmas.{serves_as}
use Rattle.sql_typed.proofs.condition.is_null.Goals as goal

pub made-requires : goal.made-requires
made-requires g c κs = ((refl, tt), serves_as (c.as_str.ensures.value ∙ c.in_ok-field.ensures.text) (g.met.F.OperandText.serves_as_operand c.args.field))
