use Rattle.sql_builder.proofs.statements.BesideStatementLemmas.{bind-next, values-beside}
use Rattle.sql_builder.proofs.laws.values_are_beside_statements.Goals as goal

pub returns : goal.returns
returns g c = record { bind = bind-next; statements = values-beside }
