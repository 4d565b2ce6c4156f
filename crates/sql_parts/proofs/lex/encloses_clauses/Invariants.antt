use Rattle.sql_parts.proofs.Imports.{shadow, Utf8, ◌≡◌, ◌+◌, ◌≤◌, length}
use Rattle.sql_parts.specs.{encloses_clauses, tokens}
use Rattle.sql_parts.proofs.lex.encloses_clauses.Given as goal

abbrev pub invariant-loop-token : goal.invariant-loop-token
invariant-loop-token l = record {
  text : shadow (Utf8 l.rest);
  few : l.level + length l.rest ≤ length l.text;
  same : encloses_clauses l.level (tokens l.rest) ≡ encloses_clauses 0 (tokens l.text);
}

abbrev pub decreases-loop-token : goal.decreases-loop-token
decreases-loop-token l = length l.rest
