use Rattle.sql_parts.proofs.Imports.{shadow, Utf8, ◌≡◌, ◌+◌, ◌≤◌, length}
use Rattle.sql_parts.specs.{first_error, marks}
use Rattle.sql_parts.proofs.positional.count_marks.Given as goal

abbrev pub invariant-loop-found : goal.invariant-loop-found
invariant-loop-found g l = record {
  utf8 : shadow (Utf8 l.rest);
  within : l.count + length l.rest ≤ length l.fn.sql;
  count : l.count + length (marks l.style l.rest) ≡ length (marks l.style l.fn.sql);
  same : first_error l.values (marks l.style l.rest) ≡ first_error l.values (marks l.style l.fn.sql);
}

abbrev pub decreases-loop-found : goal.decreases-loop-found
decreases-loop-found g l = length l.rest
