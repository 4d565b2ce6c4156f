use Rattle.std.proofs.Common.{◌++◌, [], ◌∷◌, drop}
use Rattle.sql_builder.specs.Concat.{concat_bytes}
use Rattle.sql_builder.proofs.builder.SqlBuilder.push_join.Given as goal

abbrev pub ghost-of : goal.ghost-of
ghost-of a = a.from.now.0.now ++ concat_bytes (drop 1 a.from.now.1) ∷ []
