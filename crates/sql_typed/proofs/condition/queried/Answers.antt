use Rattle.sql_typed.proofs.Imports.{◌∙◌, refl, subst, sym, IsTrue, balanced}
use Rattle.sql_typed.proofs.ConditionLemmas.{serves_as}
use Rattle.sql_typed.proofs.condition.queried.Goals as goal

pub made-requires : goal.made-requires
made-requires g c κs = (
  (refl, tt),
  (
    serves_as (c.as_str.ensures.value ∙ c.in_ok-field.ensures.text) (g.met.F.OperandText.serves_as_operand c.args.field),
    subst (λ text. IsTrue (balanced text)) (sym c.as_str-2.ensures.value) c.args.query.now.fits,
  ),
)
