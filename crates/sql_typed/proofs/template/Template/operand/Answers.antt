use Rattle.sql_typed.proofs.Imports.{◌∙◌, ap, filled, texts}
use Rattle.sql_typed.proofs.FilledLemmas.{operand_filled}
use Rattle.sql_typed.proofs.template.Template.operand.Goals as goal

pub of_built-requires : goal.of_built-requires
of_built-requires c = record {
  fits = operand_filled c.args.self.text.now (texts c.args.operands.now.written.items) (c.in_ok-text.ensures.text ∙ ap (λ o. filled (texts o) c.args.self.text.now) c.deref.ensures.value) c.args.self.apart c.args.operands.now.serve c.requires.fits;
}
