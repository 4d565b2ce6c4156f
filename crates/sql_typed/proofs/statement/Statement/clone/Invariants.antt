use Rattle.sql_typed.proofs.statement.Statement.clone.Given as goal

abbrev pub ghost-of : goal.ghost-of
ghost-of g a = a.from.now.items
