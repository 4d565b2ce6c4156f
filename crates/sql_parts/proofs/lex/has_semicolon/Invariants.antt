use Rattle.sql_parts.proofs.Imports.{shadow, Utf8, ◌≡◌, length}
use Rattle.sql_parts.specs.{has_semicolon}
use Rattle.sql_parts.proofs.lex.has_semicolon.Given as goal

abbrev pub invariant-loop-token : goal.invariant-loop-token
invariant-loop-token l = shadow (Utf8 l.rest) × (has_semicolon l.rest ≡ has_semicolon l.text)

abbrev pub decreases-loop-token : goal.decreases-loop-token
decreases-loop-token l = length l.rest
