use Rattle.std.proofs.Common.{◌≡◌, ◌++◌, length}
use Rattle.sql_builder.proofs.text_list.TextList.refill.Given as goal

abbrev pub invariant-loop-text : goal.invariant-loop-text
invariant-loop-text g l = l.self ++ g.T.Texts.left l.texts ≡ g.T.Texts.left l.initial.texts

abbrev pub decreases-loop-text : goal.decreases-loop-text
decreases-loop-text g l = length (g.T.Texts.left l.texts)
