use Rattle.std.proofs.Common.{◌≡◌, ℕ, ◌-◌, ◌<◌, ◌≤◌, false, length}
use Rattle.sql_parts.specs.Search.{has_front}
use Rattle.sql_parts.proofs.search.next_place.Given as goal

abbrev pub invariant-loop-at : goal.invariant-loop-at
invariant-loop-at l = record {
  start : l.from ≤ l.at;
  within : l.at ≤ length l.bytes;
  before : (k : ℕ) → l.from ≤ k → k < l.at → has_front l.front l.bytes k ≡ false;
}

abbrev pub decreases-loop-at : goal.decreases-loop-at
decreases-loop-at l = length l.bytes - l.at

abbrev pub invariant-loop-at-2 : goal.invariant-loop-at-2
invariant-loop-at-2 l = record {
  start : l.from ≤ l.at;
  within : l.at ≤ length l.bytes;
  before : (k : ℕ) → l.from ≤ k → k < l.at → has_front l.front l.bytes k ≡ false;
}

abbrev pub decreases-loop-at-2 : goal.decreases-loop-at-2
decreases-loop-at-2 l = length l.bytes - l.at
