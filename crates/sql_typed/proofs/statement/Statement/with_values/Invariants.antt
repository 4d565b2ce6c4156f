use Rattle.sql_typed.proofs.Imports.{[], ◌∷◌, map, Values, adding, made_in}
use Rattle.sql_typed.proofs.statement.Statement.with_values.Given as goal

abbrev pub ghost-of : goal.ghost-of
ghost-of g a = adding (Values (map g.V.ToText.text a.from.now.1.now.now)) (made_in a.from.now.0.now.items) ∷ []
