use Rattle.std.proofs.Common.{[], ◌∷◌}
use Rattle.sql_builder.proofs.text_list.TextList.push_text.Given as goal

abbrev pub ghost-of : goal.ghost-of
ghost-of g a = g.S.ToText.text a.from.now ∷ []
