use Rattle.sqlb.proofs.Imports.{arith, take_all}
use Rattle.sqlb.proofs.bytes.{whole_chars}
use Rattle.sqlb.proofs.utf8.run_in_block.Goals as goal

pub returns-then-is_ascii-clause-text : goal.returns-then-is_ascii-clause-text
returns-then-is_ascii-clause-text c = rw (take_all 64 c.args.block (omega (arith, c.fits-block.0))) (c.is_ascii.ensures c.if-is_ascii.true)

pub returns-clause-text : goal.returns-clause-text
returns-clause-text c =
    whole_chars c.args.block c.fits-block (c.begins_text.ensures c.if-not-begins_text.false) c.last_char_start.result c.last_char_start.ensures.within
    (λ some. rw c.bytes_within.ensures at (c.last_char_start.ensures.start some))
