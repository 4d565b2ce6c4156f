use Rattle.sql_parts.proofs.Imports.{shadow, Utf8, ◌≡◌, length}
use Rattle.sql_parts.specs.{is_dotted, tokens}
use Rattle.sql_parts.proofs.holes.is_dotted.Given as goal

abbrev pub invariant-loop-token : goal.invariant-loop-token
invariant-loop-token l = shadow (Utf8 l.rest) × (is_dotted (tokens l.rest) ≡ is_dotted (tokens l.text))

abbrev pub decreases-loop-token : goal.decreases-loop-token
decreases-loop-token l = length l.rest
