use Rattle.sql_typed.proofs.Imports.{◌∙◌, ap, filled, texts}
use Rattle.sql_typed.proofs.FilledStatementLemmas.{filled_ends, readers_ignore_operands}
use Rattle.sql_typed.proofs.template.Template.sql.Goals as goal

pub returns-clause-semicolon : goal.returns-clause-semicolon
returns-clause-semicolon c =
    filled_ends (texts c.args.operands.now.written.items) c.args.self.text.now
    (c.in_ok-statement.ensures.text ∙ ap (λ o. filled (texts o) c.args.self.text.now) c.deref.ensures.value) c.args.self.apart c.args.operands.now.serve

pub returns-clause-readers : goal.returns-clause-readers
returns-clause-readers c = readers_ignore_operands (texts c.args.operands.now.written.items) c.args.self.text.now
