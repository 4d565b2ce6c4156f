use Rattle.sql_builder.proofs.sink.CountOut.push.Given as goal

abbrev pub ghost-of : goal.ghost-of
ghost-of a = a.from.now.now
