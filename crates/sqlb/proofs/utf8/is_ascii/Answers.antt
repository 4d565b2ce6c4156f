use Rattle.std.proofs.Common.{arith, eqb-true}
use Rattle.sqlb.proofs.bytes.Utf8Facts.{ascii}
use Rattle.sqlb.proofs.utf8.is_ascii.Goals as goal

pub returns : goal.returns
returns c none = ascii c.args.block c.fits-block.1 (omega (arith, c.bytes_within.ensures, eqb-true _ _ none))
