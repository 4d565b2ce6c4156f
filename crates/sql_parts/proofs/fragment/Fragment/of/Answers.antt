use Rattle.sql_parts.proofs.fragments.ViolationLemmas.{fragment_of_typed}
use Rattle.sql_parts.proofs.fragment.Fragment.of.Goals as goal

pub of_built-requires : goal.of_built-requires
of_built-requires c = record { fits = fragment_of_typed c.args.text.now c.requires.fits }
