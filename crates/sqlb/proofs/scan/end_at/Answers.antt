use Rattle.std.proofs.Common.{arith}
use Rattle.sqlb.proofs.bytes.ScanFacts.{ends_in_block, goes_past_block}
use Rattle.sqlb.proofs.scan.end_at.Goals as goal

pub returns-in-Some : goal.returns-in-Some
returns-in-Some c =
    omega (arith, ends_in_block c.args.first c.args.text.now c.loop-at.at (omega arith) _ c.in-Some.ensures.1 c.in-Some.ensures.0)

pub loop-at-preserved : goal.loop-at-preserved
loop-at-preserved c =
    (omega arith, omega (arith, goes_past_block c.args.first c.args.text.now c.loop-at.at (omega arith) c.in_default.ensures))
