use Rattle.sql_parts.proofs.Imports.{shadow, Utf8, ◌≡◌, length}
use Rattle.sql_parts.specs.{closed}
use Rattle.sql_parts.proofs.tokenizer.is_closed.Given as goal

abbrev pub invariant-loop-token : goal.invariant-loop-token
invariant-loop-token l = shadow (Utf8 l.rest) × (closed l.rest ≡ closed l.text)

abbrev pub decreases-loop-token : goal.decreases-loop-token
decreases-loop-token l = length l.rest
