use Rattle.sql_typed.proofs.Imports.{[], ◌∷◌, start_on, beginning}
use Rattle.sql_typed.proofs.statement.Statement.begin.Given as goal

abbrev pub ghost-of : goal.ghost-of
ghost-of g a = beginning (start_on a.from.now.0.now (g.T.ToText.text a.from.now.1.now)) ∷ []
