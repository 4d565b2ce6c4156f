use Rattle.sql_parts.proofs.tokens.TokenReaderLemmas.{no_backslash-plain, opens-every, opens-without_backslashes, reads-closed}
use Rattle.sql_parts.proofs.laws.rules_are_readers.Goals as goal

pub returns : goal.returns
returns c = record { tokens = opens-every; closed = reads-closed; backslashes = opens-without_backslashes; plain = no_backslash-plain }
