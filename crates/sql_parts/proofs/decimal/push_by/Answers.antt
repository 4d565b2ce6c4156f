use Rattle.sql_parts.proofs.Imports.{◌∙◌, ◌∷◌, ◌++◌, ap, arith, subst, string_bytes, sym, IsAscii}
use Rattle.sql_parts.proofs.bytes.{unsigned_text, ascii-prefixed}
use Rattle.sql_parts.proofs.decimal.push_by.Goals as goal

pub written-requires-clause-ascii : goal.written-requires-clause-ascii
written-requires-clause-ascii c = subst IsAscii (sym c.write_prefixed-start.ensures.written) (ascii-prefixed c.args.prefix c.args.number c.requires.ascii (omega arith))

pub returns-clause-text : goal.returns-clause-text
returns-clause-text c =
    c.in_ok-push_str.ensures.bytes
    ∙ ap (λ text. string_bytes c.args.out.now ++ text)
    (c.written.ensures ∙ c.write_prefixed-start.ensures.written ∙ ap (λ text. c.args.prefix ∷ text) (unsigned_text c.args.number (omega arith)))
