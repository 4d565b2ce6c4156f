use Rattle.sql_parts.proofs.parameters.MarkLemmas.{cut-sign}
use Rattle.sql_parts.proofs.marks.read_mark.Goals as goal

pub range_from-requires : goal.range_from-requires
range_from-requires c = λ _. cut-sign c.args.first c.args.text.now c.utf8.text c.requires.first c.in-63.is
