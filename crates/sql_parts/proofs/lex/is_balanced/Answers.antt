use Rattle.std.proofs.Common.{◌∙◌}
use Rattle.sql_parts.specs.Tokens.{tokens}
use Rattle.sql_parts.proofs.fragments.ViolationLemmas.{balanced-alone}
use Rattle.sql_parts.proofs.lex.is_balanced.Goals as goal

pub returns : goal.returns
returns c = c.is_balanced_as.ensures ∙ balanced-alone (tokens c.args.text.now)
