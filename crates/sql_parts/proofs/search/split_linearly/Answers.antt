use Rattle.sql_parts.proofs.bytes.SplitLemmas.{split-first}
use Rattle.sql_parts.proofs.search.split_linearly.Goals as goal

pub returns : goal.returns
returns c = split-first c.args.sought.now c.args.text.now c.split_once.result c.requires c.split_once.ensures.cases
