use Rattle.sqlb.proofs.bytes.ByteMaskFacts.{lanes_within}
use Rattle.sqlb.proofs.utf8.bytes_within.Goals as goal

pub returns : goal.returns
returns c = lanes_within c.args.block c.fits-block.0 c.args.least c.args.most
