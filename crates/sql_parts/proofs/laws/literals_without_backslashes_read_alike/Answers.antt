use Rattle.sql_parts.proofs.tokens.BackslashFacts.{inside-same, literal-quoted}
use Rattle.sql_parts.proofs.laws.literals_without_backslashes_read_alike.Goals as goal

pub returns : goal.returns
returns c = record { quote = literal-quoted; bound = literal-quoted; statements = inside-same }
