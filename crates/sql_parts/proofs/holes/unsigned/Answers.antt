use Rattle.sql_parts.proofs.Imports.{None, arith, strip_prefix_char}
use Rattle.sql_parts.proofs.templates.{no-sign}
use Rattle.sql_parts.proofs.holes.unsigned.Goals as goal

pub returns-in-None-strip_prefix : goal.returns-in-None-strip_prefix
returns-in-None-strip_prefix c =
    no-sign c.args.text.now (strip_prefix_char 63 c.args.text.now None c.in-None.ensures.cases (omega arith))
    (strip_prefix_char 36 c.args.text.now None c.in-None-strip_prefix.ensures.cases (omega arith))
