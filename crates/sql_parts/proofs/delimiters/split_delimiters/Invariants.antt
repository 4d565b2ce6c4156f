use Rattle.std.proofs.Common.{◌≡◌, ℕ, ◌<◌, ◌≤◌, ◌-◌, length, get_or}
use Rattle.sql_parts.proofs.delimiters.split_delimiters.Given as goal

abbrev pub invariant-loop-end : goal.invariant-loop-end
invariant-loop-end l = record {
  within : l.end ≤ length l.bytes;
  delimiters : (i : ℕ) → i < l.end → get_or l.bytes i 0 ≡ l.delimiter;
}

abbrev pub decreases-loop-end : goal.decreases-loop-end
decreases-loop-end l = length l.bytes - l.end
