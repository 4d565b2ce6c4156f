use Rattle.sql_parts.proofs.Imports.{◌∙◌, ap, sym, is_none}
use Rattle.sql_parts.proofs.fragments.{met, no_violation}
use Rattle.sql_parts.proofs.lex.violation.Goals as goal

pub returns-then-meets-clause-reason : goal.returns-then-meets-clause-reason
returns-then-meets-clause-reason c = sym (no_violation c.args.requirement c.args.text.now (sym c.meets.ensures ∙ c.if-meets.true))

pub returns-else-meets-clause-fits : goal.returns-else-meets-clause-fits
returns-else-meets-clause-fits c = ap is_none c.reason.ensures ∙ met c.args.requirement c.args.text.now
