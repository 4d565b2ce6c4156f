use Rattle.sql_typed.proofs.Imports.{◌∙◌, subst, sym, IsTrue, balanced}
use Rattle.sql_typed.proofs.condition.in_one.Goals as goal

pub bracketed-requires : goal.bracketed-requires
bracketed-requires g c = record {
  balanced = subst (λ text. IsTrue (balanced text)) (sym (c.as_str-then-may_begin_bracketed.ensures.value ∙ c.in_ok-text.ensures.text))
      (g.met.V.OperandText.serves_as_operand c.args.value.now).is_balanced;
}
