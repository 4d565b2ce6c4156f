use Rattle.sql_parts.proofs.Imports.{◌≤◌, string_bytes, IsCharBoundary}
use Rattle.sql_parts.proofs.bytes.{Written}
use Rattle.sql_parts.proofs.like.push_like_escaped.Given as goal

abbrev pub invariant-loop-at : goal.invariant-loop-at
invariant-loop-at l = record {
  from : l.start ≤ l.at;
  cut : IsCharBoundary l.text l.start;
  written : Written l.escape l.start l.at l.text (string_bytes l.initial.out) (string_bytes l.out);
}
