use Rattle.sql_parts.proofs.Imports.{◌∙◌, arith, subst, sym, IsAscii, IsAscii-decimal_wide}
use Rattle.sql_parts.proofs.bytes.{unsigned_text}
use Rattle.sql_parts.proofs.decimal.unsigned_text.Goals as goal

pub written-requires-clause-ascii : goal.written-requires-clause-ascii
written-requires-clause-ascii c =
    let fits = c.ranges.number.fits in subst IsAscii (sym c.write_number-start.ensures.written) (IsAscii-decimal_wide c.args.number (omega arith))

pub returns : goal.returns
returns c = rw (c.written.ensures ∙ c.write_number-start.ensures.written ∙ unsigned_text c.args.number c.ranges.number.fits) at c.from_str.ensures.ok
