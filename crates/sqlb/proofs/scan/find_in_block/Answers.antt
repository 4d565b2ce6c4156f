use Rattle.sqlb.proofs.bytes.ScanFacts.{run_to_end, run_within, run_without_end}
use Rattle.sqlb.proofs.scan.find_in_block.Goals as goal

pub returns-then-ends-eq0 : goal.returns-then-ends-eq0
returns-then-ends-eq0 c = run_without_end c.args.first c.args.text.now c.args.at c.requires c.if-ends-eq0.true

pub returns : goal.returns
returns c = (
  run_within c.args.first c.args.text.now c.args.at c.requires c.if-ends-eq0.false,
  run_to_end c.args.first c.args.text.now c.args.at c.requires c.if-ends-eq0.false,
)
