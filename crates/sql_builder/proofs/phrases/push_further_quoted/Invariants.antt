use Rattle.sql_builder.proofs.Imports.{◌≡◌, ◌++◌, codes, flat_map, length, map, string_bytes, quoted}
use Rattle.sql_builder.proofs.phrases.push_further_quoted.Given as goal

abbrev pub invariant-loop-text : goal.invariant-loop-text
invariant-loop-text g l =
    string_bytes l.out ++ flat_map (λ item. codes ", " ++ item) (map quoted (g.T.Texts.left l.texts))
    ≡ string_bytes l.initial.out ++ flat_map (λ item. codes ", " ++ item) (map quoted (g.T.Texts.left l.initial.texts))

abbrev pub decreases-loop-text : goal.decreases-loop-text
decreases-loop-text g l = length (g.T.Texts.left l.texts)
