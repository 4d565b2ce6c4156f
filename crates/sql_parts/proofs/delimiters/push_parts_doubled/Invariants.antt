use Rattle.sql_parts.proofs.Imports.{shadow, Utf8, ◌≡◌, ◌++◌, length}
use Rattle.std.specs.Io.{StartsWith}
use Rattle.std.specs.String.{string_bytes}
use Rattle.sql_parts.specs.{doubled}
use Rattle.sql_parts.proofs.delimiters.push_parts_doubled.Given as goal

abbrev pub invariant-delimiters : goal.invariant-delimiters
invariant-delimiters l =
    shadow (Utf8 l.rest) × (string_bytes l.out ++ doubled l.delimiter l.rest ≡ string_bytes l.initial.out ++ doubled l.delimiter l.after)
    × StartsWith (string_bytes l.out) (string_bytes l.initial.out)

abbrev pub decreases-delimiters : goal.decreases-delimiters
decreases-delimiters l = length l.rest
