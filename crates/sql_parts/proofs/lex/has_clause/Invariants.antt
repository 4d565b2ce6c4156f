use Rattle.sql_parts.proofs.Imports.{shadow, Utf8, ◌≡◌, ◌+◌, ◌≤◌, length, if◌then◌else◌, pos, ◌-ℤ◌}
use Rattle.sql_parts.specs.{has_top_level, is_clause_word, is_dialect_word, tokens}
use Rattle.sql_parts.proofs.fragments.DepthFacts.{has_top_level_from}
use Rattle.sql_parts.proofs.lex.has_clause.Given as goal

abbrev pub invariant-loop-role : goal.invariant-loop-role
invariant-loop-role l = record {
  text : shadow (Utf8 l.rest);
  raised : l.depth.raised + length l.rest ≤ length l.fn.text;
  lowered : l.depth.lowered + length l.rest ≤ length l.fn.text;
  same : has_top_level_from (λ token. if l.dialect then is_dialect_word token else is_clause_word token) (pos l.depth.raised -ℤ pos l.depth.lowered)
      (tokens l.rest)
      ≡ has_top_level (λ token. if l.dialect then is_dialect_word token else is_clause_word token) (tokens l.text);
}

abbrev pub decreases-loop-role : goal.decreases-loop-role
decreases-loop-role l = length l.rest
