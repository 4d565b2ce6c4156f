use Rattle.std.proofs.Common.{[], ◌∷◌}
use Rattle.sql_builder.specs.Concat.{concat_bytes}
use Rattle.sql_builder.proofs.text_list.TextList.push.Given as goal

abbrev pub ghost-of : goal.ghost-of
ghost-of a = concat_bytes a.from.now.now ∷ []
