use Rattle.sql_typed.proofs.Imports.{◌∙◌, ap, in_hole, texts}
use Rattle.sql_typed.proofs.FilledLemmas.{all_more, one_more}
use Rattle.sql_typed.proofs.template.Operands.with.Goals as goal

pub invariant_of-self : goal.invariant_of-self
invariant_of-self g c = record {
  serve = all_more (texts c.args.self.written.items) (g.V.ToText.text c.args.operand)
      (one_more c.args.self.written.items c.in_ok-text.text c.in_ok-push.ensures.items (c.in_ok-text.ensures.text ∙ ap in_hole c.in_ok-to_text.ensures.text))
      c.args.self.serve (g.met.V.OperandText.serves_as_operand c.args.operand);
}

pub returns-clause-texts : goal.returns-clause-texts
returns-clause-texts g c =
    one_more c.args.self.written.items c.in_ok-text.text c.in_ok-push.ensures.items (c.in_ok-text.ensures.text ∙ ap in_hole c.in_ok-to_text.ensures.text)
