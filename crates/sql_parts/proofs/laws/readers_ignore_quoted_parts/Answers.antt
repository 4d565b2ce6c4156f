use Rattle.sql_parts.proofs.tokens.ReaderLemmas.{parts-at_places, readers-alike}
use Rattle.sql_parts.proofs.laws.readers_ignore_quoted_parts.Goals as goal

pub returns : goal.returns
returns c = record { alike = readers-alike; places = parts-at_places }
