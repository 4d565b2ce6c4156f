use Rattle.sql_parts.proofs.Imports.{◌∙◌, ap, sym, is_none}
use Rattle.sql_parts.proofs.fragments.{typed_serves}
use Rattle.sql_parts.proofs.fragment.Operand.of_trusted.Goals as goal

pub invariant_of-result : goal.invariant_of-result
invariant_of-result c = record { fits = typed_serves c.args.text.now (sym c.violation.ensures.fits ∙ ap is_none c.in-None.is) }
