use Rattle.sql_parts.proofs.Imports.{◌∙◌, ap, sym, is_none}
use Rattle.sql_parts.proofs.fragments.{fragment_of_typed}
use Rattle.sql_parts.proofs.fragment.Fragment.of_trusted.Goals as goal

pub invariant_of-result : goal.invariant_of-result
invariant_of-result c = record { fits = fragment_of_typed c.args.text.now (sym c.violation.ensures.fits ∙ ap is_none c.in-None.is) }
