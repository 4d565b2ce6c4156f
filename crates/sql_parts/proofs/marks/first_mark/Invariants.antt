use Rattle.sql_parts.proofs.Imports.{shadow, Utf8, ◌≤◌, length}
use Rattle.sql_parts.proofs.parameters.{IsBefore}
use Rattle.sql_parts.proofs.marks.first_mark.Given as goal

abbrev pub invariant-loop-first : goal.invariant-loop-first
invariant-loop-first l = record {
  utf8 : shadow (Utf8 l.rest);
  within : length l.rest ≤ length l.text;
  before : IsBefore l.style l.text l.rest;
}

abbrev pub decreases-loop-first : goal.decreases-loop-first
decreases-loop-first l = length l.rest
