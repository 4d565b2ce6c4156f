use Rattle.sql_parts.proofs.Imports.{◌∙◌, ◌++◌, ap, arith, subst, string_bytes, sym, IsAscii, IsAscii-decimal_wide}
use Rattle.sql_parts.proofs.bytes.{unsigned_text}
use Rattle.sql_parts.proofs.decimal.push_unsigned.Goals as goal

pub written-requires-clause-ascii : goal.written-requires-clause-ascii
written-requires-clause-ascii c =
    let fits = c.ranges.number.fits in subst IsAscii (sym c.write_number-start.ensures.written) (IsAscii-decimal_wide c.args.number (omega arith))

pub returns-clause-text : goal.returns-clause-text
returns-clause-text c =
    c.in_ok-push_str.ensures.bytes
    ∙ ap (λ text. string_bytes c.args.out.now ++ text)
    (c.written.ensures ∙ c.write_number-start.ensures.written ∙ unsigned_text c.args.number c.ranges.number.fits)
