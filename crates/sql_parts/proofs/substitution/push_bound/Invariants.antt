use Rattle.sql_parts.proofs.Imports.{◌≡◌, ◌+◌, ◌≤◌, ◌++◌, length, shadow, Utf8}
use Rattle.std.specs.String.{string_bytes}
use Rattle.sql_parts.specs.{marks_of, resolved_from, written}
use Rattle.sql_parts.proofs.substitution.push_bound.Given as goal

abbrev pub invariant-loop-found : goal.invariant-loop-found
invariant-loop-found g l =
    let literals = g.L.Literals.literals l.literals in
    shadow (Utf8 l.rest)
    × (l.seen + length l.rest ≤ length l.fn.template)
    × (string_bytes l.out ++ written literals (resolved_from (marks_of l.marks) l.seen 0 l.rest) ≡ string_bytes l.initial.out
    ++ written literals (resolved_from (marks_of l.marks) 0 0 l.fn.template))

abbrev pub decreases-loop-found : goal.decreases-loop-found
decreases-loop-found g l = length l.rest
