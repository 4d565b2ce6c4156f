use Rattle.sqlb.proofs.Imports.{◌≡◌, ◌+◌, ◌-◌, ◌≤◌, length, drop, position_or_len}
use Rattle.sqlb.specs.{is_or_feed}
use Rattle.sqlb.proofs.scan.end_at.Given as goal

-- the first such byte is the first from here on
abbrev pub invariant-loop-at : goal.invariant-loop-at
invariant-loop-at l = (l.at ≤ length l.text)
    × (l.from + position_or_len (is_or_feed l.first) (drop l.from l.text) ≡ l.at + position_or_len (is_or_feed l.first) (drop l.at l.text))

abbrev pub decreases-loop-at : goal.decreases-loop-at
decreases-loop-at l = length l.text - l.at
