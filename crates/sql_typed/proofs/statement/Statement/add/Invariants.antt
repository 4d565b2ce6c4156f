use Rattle.sql_typed.proofs.Imports.{[], ◌∷◌, ◌++◌, SelectFrom, Made, adding, beginning, made_in, added_call}
use Rattle.sql_typed.proofs.statement.Statement.add.Given as goal

-- the call alone, and then behind those before it
abbrev pub ghost-of : goal.ghost-of
ghost-of g a = adding (added_call a.from.now) (beginning (SelectFrom [])) ∷ []

abbrev pub ghost-of-2 : goal.ghost-of-2
ghost-of-2 g a =
    let before : Made = made_in a.from.now.0.now.items in
    record { start = before.start; calls = before.calls ++ (made_in a.from.now.1.now.items).calls; all_rows = before.all_rows } ∷ []
