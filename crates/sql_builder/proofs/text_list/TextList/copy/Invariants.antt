use Rattle.sql_builder.proofs.text_list.TextList.copy.Given as goal

abbrev pub ghost-of : goal.ghost-of
ghost-of a = a.from.now.items
