use Rattle.sql_builder.specs.{extend_last, concat_bytes}
use Rattle.sql_builder.proofs.builder.SqlBuilder.push_constraint.Given as goal

abbrev pub ghost-of : goal.ghost-of
ghost-of a = concat_bytes a.from.now.now

abbrev pub ghost-of-2 : goal.ghost-of-2
ghost-of-2 a = extend_last a.from.now.1.now.items a.from.now.0.now
