use Rattle.std.proofs.Common.{◌∙◌}
use Rattle.sql_parts.proofs.templates.PairLemmas.{found-by-order}
use Rattle.sql_parts.proofs.bind_names.place_of.Goals as goal

pub returns : goal.returns
returns c = c.copied.ensures ∙ c.get.ensures.value ∙ found-by-order c.args.name.now c.args.places.now.entries
