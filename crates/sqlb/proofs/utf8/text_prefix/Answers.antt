use Rattle.sqlb.proofs.Imports.{◌+◌, arith, take_rest}
use Rattle.sqlb.proofs.bytes.{text_more}
use Rattle.sqlb.proofs.utf8.text_prefix.Goals as goal

pub returns-then-run-eq0-clause-text : goal.returns-then-run-eq0-clause-text
returns-then-run-eq0-clause-text c =
    text_more c.args.bytes.now c.loop-at.at c.block_prefix-at.result c.loop-at.invariant.1 (rw take_rest at c.block_prefix-at.ensures.text)

pub loop-at-preserved : goal.loop-at-preserved
loop-at-preserved c =
    let blocks = text_more c.args.bytes.now c.loop-at.at c.block_prefix-at.result c.loop-at.invariant.1 (rw take_rest at c.block_prefix-at.ensures.text) in
    let stretch = rw take_rest at c.stretch_prefix-run.ensures.text in
    (omega arith, text_more c.args.bytes.now (c.loop-at.at + c.block_prefix-at.result) c.stretch_prefix-run.result blocks stretch)
