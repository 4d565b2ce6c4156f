use Rattle.sql_parts.proofs.Imports.{◌≡◌, ℕ, ◌-◌, ◌<◌, ◌≤◌, length, LacksTextAt}
use Rattle.sql_parts.specs.{front_of}
use Rattle.sql_parts.proofs.search.split_at_first.Given as goal

abbrev pub invariant-loop-place : goal.invariant-loop-place
invariant-loop-place l = record {
  some : 0 < length l.needle;
  front : l.front ≡ front_of l.needle;
  within : l.at ≤ length l.bytes;
  before : (k : ℕ) → k < l.at → LacksTextAt l.needle l.bytes k;
}

abbrev pub decreases-loop-place : goal.decreases-loop-place
decreases-loop-place l = length l.bytes - l.at
