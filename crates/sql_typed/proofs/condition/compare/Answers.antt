use Rattle.sql_typed.proofs.Imports.{◌∙◌, ◌++◌, ap, Compare}
use Rattle.sql_typed.proofs.ConditionLemmas.{condition_made}
use Rattle.sql_typed.proofs.condition.compare.Goals as goal

pub invariant_of-result : goal.invariant_of-result
invariant_of-result g c =
    let field = g.F.ToText.text c.args.field in
    let value = g.V.ToText.text c.args.value in
    record {
      fits = (condition_made (Compare c.args.relation field value)
          (g.met.F.OperandText.serves_as_operand c.args.field, g.met.V.OperandText.serves_as_operand c.args.value)
          (c.in_ok-text.ensures.text ∙ ap (λ words. field ++ (words ++ value)) c.sign.ensures)).0;
    }

pub returns-clause-atom : goal.returns-clause-atom
returns-clause-atom g c =
    let field = g.F.ToText.text c.args.field in
    let value = g.V.ToText.text c.args.value in
    (condition_made (Compare c.args.relation field value)
    (g.met.F.OperandText.serves_as_operand c.args.field, g.met.V.OperandText.serves_as_operand c.args.value)
    (c.in_ok-text.ensures.text ∙ ap (λ words. field ++ (words ++ value)) c.sign.ensures)).1
