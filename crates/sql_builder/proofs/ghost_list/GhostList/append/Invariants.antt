use Rattle.std.proofs.Common.{◌++◌}
use Rattle.sql_builder.proofs.ghost_list.GhostList.append.Given as goal

abbrev pub ghost-of : goal.ghost-of
ghost-of g a = a.from.now.0.now.items ++ a.from.now.1.now.items
