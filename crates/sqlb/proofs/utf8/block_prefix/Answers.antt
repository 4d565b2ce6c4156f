use Rattle.std.proofs.Common.{arith}
use Rattle.sqlb.proofs.bytes.Utf8Facts.{block_more}
use Rattle.sqlb.proofs.utf8.block_prefix.Goals as goal

pub loop-at-preserved : goal.loop-at-preserved
loop-at-preserved c =
    let run = c.run_in_block-run.ensures in
    (omega arith, block_more c.args.bytes.now c.loop-at.at c.run_in_block-run.result run.within c.loop-at.invariant.1 run.text)
