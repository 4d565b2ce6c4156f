use Rattle.sql_parts.proofs.templates.BoundReaderLemmas.{bound-alike}
use Rattle.sql_parts.proofs.laws.readers_ignore_bound_texts.Goals as goal

pub returns : goal.returns
returns c = bound-alike
