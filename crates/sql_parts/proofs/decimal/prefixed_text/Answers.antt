use Rattle.sql_parts.proofs.Imports.{◌≡◌, ◌∙◌, ◌∷◌, ap, arith, subst, sym, IsAscii, length-decimal-le}
use Rattle.sql_parts.specs.{decimal_text}
use Rattle.sql_parts.proofs.bytes.{unsigned_text, ascii-prefixed}
use Rattle.sql_parts.proofs.decimal.prefixed_text.Goals as goal

pub write_prefixed-start-requires : goal.write_prefixed-start-requires
write_prefixed-start-requires c = omega (arith, length-decimal-le 20 c.args.number (omega arith) (omega arith) (omega arith))

pub written-requires-clause-ascii : goal.written-requires-clause-ascii
written-requires-clause-ascii c = subst IsAscii (sym c.write_prefixed-start.ensures.written) (ascii-prefixed c.args.prefix c.args.number c.requires.ascii (omega arith))

pub returns : goal.returns
returns c =
    let is : c.written.result.now ≡ c.args.prefix ∷ decimal_text c.args.number =
    c.written.ensures ∙ c.write_prefixed-start.ensures.written ∙ ap (λ text. c.args.prefix ∷ text) (unsigned_text c.args.number (omega arith)) in
    rw is at c.from_str.ensures.ok
