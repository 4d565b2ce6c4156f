use Rattle.sql_parts.proofs.Imports.{shadow, Utf8, ◌≡◌, ◌≤◌, length}
use Rattle.sql_parts.specs.{tokens}
use Rattle.sql_parts.proofs.tokenizer.first_token.Given as goal

abbrev pub invariant-loop-first : goal.invariant-loop-first
invariant-loop-first l = shadow (Utf8 l.rest) × (length l.rest ≤ length l.text) × (tokens l.rest ≡ tokens l.text)

abbrev pub decreases-loop-first : goal.decreases-loop-first
decreases-loop-first l = length l.rest
