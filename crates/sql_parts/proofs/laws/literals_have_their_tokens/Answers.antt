use Rattle.sql_parts.proofs.tokens.LiteralFacts.{literal-is}
use Rattle.sql_parts.proofs.laws.literals_have_their_tokens.Goals as goal

pub returns : goal.returns
returns c = record { tokens = literal-is }
