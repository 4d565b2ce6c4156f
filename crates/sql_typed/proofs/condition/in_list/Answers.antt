use Rattle.sql_typed.proofs.Imports.{◌∙◌, refl, operands_balanced}
use Rattle.sql_typed.proofs.ConditionLemmas.{serves_as}
use Rattle.sql_typed.proofs.condition.in_list.Goals as goal

pub made-requires : goal.made-requires
made-requires g c κs = (
  (refl, tt),
  (
    serves_as (c.as_str.ensures.value ∙ c.in_ok-field.ensures.text) (g.met.F.OperandText.serves_as_operand c.args.field),
    operands_balanced g.V.ToText.text g.met.V.OperandText.serves_as_operand c.args.values.now,
  ),
)
