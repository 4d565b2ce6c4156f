use Rattle.sql_parts.proofs.Imports.{◌∙◌, subst, sym, to_z-of_z, IsAscii}
use Rattle.sql_parts.proofs.bytes.{signed_text, ascii-signed}
use Rattle.sql_parts.proofs.decimal.signed_text.Goals as goal

pub written-requires-clause-ascii : goal.written-requires-clause-ascii
written-requires-clause-ascii c =
    let written = rw (to_z-of_z c.ranges.number) at c.write_signed-start.ensures.written in subst IsAscii (sym written) (ascii-signed c.args.number c.ranges.number)

pub returns : goal.returns
returns c =
    let written = rw (to_z-of_z c.ranges.number) at c.write_signed-start.ensures.written in
    rw (c.written.ensures ∙ written ∙ signed_text c.args.number c.ranges.number) at c.from_str.ensures.ok
