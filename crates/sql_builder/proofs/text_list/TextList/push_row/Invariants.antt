use Rattle.std.proofs.Common.{[], ◌∷◌, drop, string_bytes}
use Rattle.sql_builder.proofs.text_list.TextList.push_row.Given as goal

abbrev pub ghost-of : goal.ghost-of
ghost-of g a = drop a.from.now.1 (string_bytes a.from.now.0.now) ∷ []
