use Rattle.sql_parts.proofs.Imports.{shadow, Utf8, ◌≡◌, ◌+◌, ◌≤◌, ◌&&◌, length, not, codes, pos, ◌-ℤ◌}
use Rattle.sql_parts.specs.{has_top_level, is_balanced, is_word, is_barred, begins_with, tokens}
use Rattle.sql_parts.proofs.fragments.DepthFacts.{balances}
use Rattle.sql_parts.proofs.lex.is_balanced_as.Given as goal

abbrev pub invariant-loop-role : goal.invariant-loop-role
invariant-loop-role l = record {
  text : shadow (Utf8 l.rest);
  raised : l.depth.raised + length l.rest ≤ length l.fn.text;
  lowered : l.depth.lowered + length l.rest ≤ length l.fn.text;
  same : balances (is_barred l.bare l.typed l.operand) (λ token. l.operand && is_word (codes "NOT") token)
      l.is_empty (pos l.depth.raised -ℤ pos l.depth.lowered) (tokens l.rest)
      ≡ (is_balanced (tokens l.text) && not (has_top_level (is_barred l.bare l.typed l.operand) (tokens l.text))
      && not (begins_with (λ token. l.operand && is_word (codes "NOT") token) (tokens l.text)));
}

abbrev pub decreases-loop-role : goal.decreases-loop-role
decreases-loop-role l = length l.rest
