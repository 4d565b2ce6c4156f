use Rattle.sql_parts.proofs.Imports.{◌∙◌, ◌++◌, ap, subst, string_bytes, sym, to_z-of_z, IsAscii}
use Rattle.sql_parts.proofs.bytes.{signed_text, ascii-signed}
use Rattle.sql_parts.proofs.decimal.push_signed.Goals as goal

pub written-requires-clause-ascii : goal.written-requires-clause-ascii
written-requires-clause-ascii c =
    let written = rw (to_z-of_z c.ranges.number) at c.write_signed-start.ensures.written in subst IsAscii (sym written) (ascii-signed c.args.number c.ranges.number)

pub returns-clause-text : goal.returns-clause-text
returns-clause-text c =
    let written = rw (to_z-of_z c.ranges.number) at c.write_signed-start.ensures.written in
    c.in_ok-push_str.ensures.bytes
    ∙ ap (λ text. string_bytes c.args.out.now ++ text) (c.written.ensures ∙ written ∙ signed_text c.args.number c.ranges.number)
