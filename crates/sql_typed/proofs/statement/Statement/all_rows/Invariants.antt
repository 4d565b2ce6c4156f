use Rattle.sql_typed.proofs.Imports.{[], ◌∷◌, made_in, meaning_all_rows}
use Rattle.sql_typed.proofs.statement.Statement.all_rows.Given as goal

abbrev pub ghost-of : goal.ghost-of
ghost-of g a = meaning_all_rows (made_in a.from.now.items) ∷ []
