use Rattle.std.proofs.Common.{◌++◌, [], ◌∷◌}
use Rattle.sql_builder.proofs.builder.SqlBuilder.push_union.Given as goal

abbrev pub ghost-of : goal.ghost-of
ghost-of a = a.from.now.0.now ++ (a.from.now.1, a.from.now.2.now) ∷ []
