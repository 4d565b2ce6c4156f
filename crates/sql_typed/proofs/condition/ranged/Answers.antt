use Rattle.std.proofs.Common.{◌∙◌, refl}
use Rattle.sql_typed.proofs.ConditionLemmas.{serves_as}
use Rattle.sql_typed.proofs.condition.ranged.Goals as goal

pub made-requires : goal.made-requires
made-requires g c κs = (
  (refl, tt),
  (
    serves_as (c.as_str.ensures.value ∙ c.in_ok-field.ensures.text) (g.met.F.OperandText.serves_as_operand c.args.field),
    serves_as (c.as_str-2.ensures.value ∙ c.in_ok-least.ensures.text) (g.met.L.OperandText.serves_as_operand c.args.least),
    serves_as (c.as_str-3.ensures.value ∙ c.in_ok-greatest.ensures.text) (g.met.G.OperandText.serves_as_operand c.args.greatest),
  ),
)
