use Rattle.sqlb.proofs.Imports.{◌-◌, ◌≤◌, length, take, IsUtf8}
use Rattle.sqlb.proofs.utf8.text_prefix.Given as goal

abbrev pub invariant-loop-at : goal.invariant-loop-at
invariant-loop-at l = (l.at ≤ length l.bytes) × IsUtf8 (take l.at l.bytes)

abbrev pub decreases-loop-at : goal.decreases-loop-at
decreases-loop-at l = length l.bytes - l.at
