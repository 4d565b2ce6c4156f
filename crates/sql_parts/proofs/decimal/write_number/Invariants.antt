use Rattle.sql_parts.proofs.Imports.{◌≡◌, ◌+◌, ◌≤◌, ◌++◌, length, drop, decimal}
use Rattle.sql_parts.proofs.decimal.write_number.Given as goal

abbrev pub invariant-loop-left : goal.invariant-loop-left
invariant-loop-left l = record {
  within : l.end ≤ 40;
  long : length l.text ≡ 40;
  start : l.end + length (decimal l.number) ≡ 40 + length (decimal l.left);
  written : decimal l.left ++ drop l.end l.text ≡ decimal l.number;
}

abbrev pub decreases-loop-left : goal.decreases-loop-left
decreases-loop-left l = l.left
