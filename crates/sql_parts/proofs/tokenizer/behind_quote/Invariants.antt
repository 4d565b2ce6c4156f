use Rattle.sql_parts.proofs.Imports.{shadow, Utf8, ◌≡◌, length}
use Rattle.sql_parts.proofs.tokens.{behind_inside}
use Rattle.sql_parts.proofs.tokenizer.behind_quote.Given as goal

abbrev pub invariant-loop-behind : goal.invariant-loop-behind
invariant-loop-behind l = shadow (Utf8 l.rest) × (behind_inside l.delimiter l.rest ≡ behind_inside l.delimiter l.quoted)

abbrev pub decreases-loop-behind : goal.decreases-loop-behind
decreases-loop-behind l = length l.rest
