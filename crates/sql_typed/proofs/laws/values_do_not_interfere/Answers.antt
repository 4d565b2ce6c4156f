use Rattle.sql_typed.proofs.Imports.{sym, ◌∙◌, ap, blank, between-tokens}
use Rattle.sql_parts.specs.declared.delimiters.Quotes.TheVariants.{Single}
use Rattle.sql_typed.proofs.laws.values_do_not_interfere.Goals as goal

pub returns-clause-values : goal.returns-clause-values
returns-clause-values c = λ one other. ap blank (between-tokens Single one) ∙ sym (ap blank (between-tokens Single other))
