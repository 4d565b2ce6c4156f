use Rattle.sql_parts.proofs.Imports.{◌≡◌, ◌+◌, ◌≤◌, ◌++◌, length, drop, decimal}
use Rattle.sql_parts.proofs.decimal.write_digits.Given as goal

abbrev pub invariant-loop-left : goal.invariant-loop-left
invariant-loop-left l = record {
  room : length (decimal l.left) ≤ l.at;
  within : l.at ≤ l.end;
  start : l.at + length (decimal l.number) ≡ l.end + length (decimal l.left);
  written : decimal l.left ++ drop l.at l.text ≡ decimal l.number ++ drop l.end l.fn.text;
}

abbrev pub decreases-loop-left : goal.decreases-loop-left
decreases-loop-left l = l.left
