use Rattle.std.proofs.Common.{◌≡◌, ◌*◌, ◌-◌, ◌^◌, ◌<◌, ◌++◌, drop}
use Rattle.sql_parts.specs.Decimal.{last_digits}
use Rattle.sql_parts.proofs.decimal.write_last.Given as goal

abbrev pub invariant-loop-fours : goal.invariant-loop-fours
invariant-loop-fours l = record {
  below : l.left < 10 ^ (19 - 4 * l.fours);
  written : last_digits (19 - 4 * l.fours) l.left ++ drop (l.end - 4 * l.fours) l.text ≡ last_digits 19 l.number ++ drop l.end l.fn.text;
}
