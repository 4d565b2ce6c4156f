use Rattle.sql_builder.proofs.printed_list.PrintedList.copy.Given as goal

abbrev pub ghost-of : goal.ghost-of
ghost-of g a = a.from.now.items
