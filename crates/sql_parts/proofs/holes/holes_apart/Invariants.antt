use Rattle.sql_parts.proofs.Imports.{shadow, Utf8, ◌≡◌, length}
use Rattle.sql_parts.proofs.templates.{rest_apart}
use Rattle.sql_parts.specs.{holes_apart}
use Rattle.sql_parts.proofs.holes.holes_apart.Given as goal

abbrev pub invariant-loop-segment : goal.invariant-loop-segment
invariant-loop-segment l = shadow (Utf8 l.rest) × (rest_apart l.first l.rest ≡ holes_apart l.fn.template)

abbrev pub decreases-loop-segment : goal.decreases-loop-segment
decreases-loop-segment l = length l.rest
