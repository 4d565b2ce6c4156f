use Rattle.std.proofs.Common.{◌≡◌, ◌++◌, codes, flat_map, length, string_bytes}
use Rattle.std.specs.Io.{StartsWith}
use Rattle.sql_builder.proofs.phrases.push_further.Given as goal

abbrev pub invariant-loop-text : goal.invariant-loop-text
invariant-loop-text g l = record {
  same : string_bytes l.out ++ flat_map (λ item. codes ", " ++ item) (g.T.Texts.left l.texts)
      ≡ string_bytes l.initial.out ++ flat_map (λ item. codes ", " ++ item) (g.T.Texts.left l.initial.texts);
  kept : StartsWith (string_bytes l.out) (string_bytes l.initial.out);
}

abbrev pub decreases-loop-text : goal.decreases-loop-text
decreases-loop-text g l = length (g.T.Texts.left l.texts)
