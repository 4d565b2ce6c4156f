use Rattle.sql_parts.proofs.Imports.{shadow, Utf8, ◌≡◌, ℕ, ◌+◌, ◌≤◌, ◌++◌, Bool, List, [], length, ◌==◌, Marks}
use Rattle.std.specs.String.{string_bytes}
use Rattle.sql_parts.specs.{marks_of, resolved_from, segments_apart}
use Rattle.sql_parts.proofs.lex.segments_apart.Given as goal

-- whether the segments of what is left of a text are apart, where so many placeholders precede it, and this is before it in its
-- first segment
abbrev pub rest_apart : Marks → ℕ → List ℕ → List ℕ → Bool
rest_apart marks seen before rest =
    let resolved = resolved_from marks seen 0 rest in segments_apart (seen == 0) (before ++ resolved.0) resolved.1

abbrev pub invariant-loop-found : goal.invariant-loop-found
invariant-loop-found l =
    shadow (Utf8 l.rest)
    × (l.seen + length l.rest ≤ length l.fn.template)
    × (rest_apart (marks_of l.marks) l.seen (string_bytes l.segment) l.rest ≡ rest_apart (marks_of l.marks) 0 [] l.fn.template)

abbrev pub decreases-loop-found : goal.decreases-loop-found
decreases-loop-found l = length l.rest
