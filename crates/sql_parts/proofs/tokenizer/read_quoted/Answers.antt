use Rattle.sql_parts.proofs.tokens.FirstTokenLemmas.{by-inside}
use Rattle.sql_parts.proofs.tokenizer.read_quoted.Goals as goal

pub returns : goal.returns
returns c = λ token quoted. by-inside token quoted c.args.quoted.now _ c.behind_quote.result c.ended.result c.behind_quote.ensures c.ended.ensures
