use Rattle.std.proofs.Common.{◌≢◌, ℕ, ◌<◌, ◌≤◌, length, get_or}
use Rattle.sqlb.proofs.text.end_of_lines.Given as goal

abbrev pub invariant-loop-end : goal.invariant-loop-end
invariant-loop-end l = (l.end ≤ length l.text) × ((k : ℕ) → l.end ≤ k → k < length l.text → get_or l.text k 0 ≢ 10)

abbrev pub decreases-loop-end : goal.decreases-loop-end
decreases-loop-end l = l.end
