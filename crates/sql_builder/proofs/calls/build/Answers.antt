use Rattle.std.proofs.Common.{rules}
use Rattle.sql_builder.specs.Calls.{start_view}
use Rattle.sql_builder.proofs.statements.RunLemmas.{one_more_call}
use Rattle.sql_builder.proofs.calls.build.Goals as goal

pub loop-call-preserved : goal.loop-call-preserved
loop-call-preserved c =
    rw (one_more_call (start_view c.args.start.now) c.args.calls.now c.loop-call.call-index c.call-item.result c.loop-call-test.true c.call-item.is, ← c.loop-call.invariant)
    (search rules)
