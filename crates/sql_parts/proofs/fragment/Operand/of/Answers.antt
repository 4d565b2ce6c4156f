use Rattle.sql_parts.proofs.fragments.ViolationLemmas.{typed_serves}
use Rattle.sql_parts.proofs.fragment.Operand.of.Goals as goal

pub invariant_of-result : goal.invariant_of-result
invariant_of-result c = record { fits = typed_serves c.args.text.now c.requires.fits }
