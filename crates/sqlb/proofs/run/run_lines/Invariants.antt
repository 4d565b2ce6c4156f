use Rattle.std.proofs.Common.{◌≡◌, ◌+◌, ◌^◌, ◌<◌, ◌++◌, List, ℕ, [], false, length}
use Rattle.sqlb.proofs.outcomes.ProgressFacts.{Progress, UnreadLines}
use Rattle.sqlb.specs.Lines.{lines}
use Rattle.sqlb.proofs.run.run_lines.Given as goal

abbrev pub invariant-lines : goal.invariant-lines
invariant-lines g l = record {
  not_failed : l.writer.failed ≡ false;
  ended : l.writer.ended ≡ l.initial.writer.ended;
  retried : l.writer.retried ≡ l.initial.writer.retried;
  counted : l.number + length l.arguments.behind < 2 ^ 63;
  taken : l.arguments.parts ≡ [];
  ahead : (unread : List (List ℕ)) × UnreadLines l.has_invalid_line unread
      × Progress (g.W.Write.contents l.initial.writer.inner) (g.W.Write.contents l.writer.inner) l.input l.number l.script (lines l.arguments.behind ++ unread);
}

abbrev pub decreases-lines : goal.decreases-lines
decreases-lines g l = length l.arguments.behind
