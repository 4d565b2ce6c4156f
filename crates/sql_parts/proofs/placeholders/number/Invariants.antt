use Rattle.sql_parts.proofs.Imports.{◌≡◌, ℕ, ◌<◌, ◌≤◌, ◌-◌, length, get_or, take, true, is_ascii_digit, digits_value}
use Rattle.sql_parts.specs.{IsNumber}
use Rattle.sql_parts.proofs.placeholders.number.Given as goal

abbrev pub invariant-loop-end : goal.invariant-loop-end
invariant-loop-end l = record {
  within : l.end ≤ length l.bytes;
  digits : (i : ℕ) → i < l.end → is_ascii_digit (get_or l.bytes i 0) ≡ true;
  value : IsNumber l.number (digits_value 10 (take l.end l.bytes));
}

abbrev pub decreases-loop-end : goal.decreases-loop-end
decreases-loop-end l = length l.bytes - l.end
