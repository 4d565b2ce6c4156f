use Rattle.sql_parts.proofs.Imports.{◌≡◌, ◌+◌, ◌%◌, set, arith, length-set, set_comm, drop-set}
use Rattle.sql_parts.proofs.bytes.{in-table}
use Rattle.sql_parts.proofs.decimal.write_pair.Goals as goal

pub returns : goal.returns
returns c =
    let p = in-table c.args.pair c.requires.0 in
    let at = c.args.at in
    let text = c.args.text.now in
    let e : at + 1 + 1 ≡ at + 2 = omega arith in
    let ones = set text (at + 1) (48 + c.args.pair % 10) in
    rw (p.0, p.1, set_comm text at (at + 1) _ _ (λ x. omega arith), drop-set ones at _ (omega (arith, length-set text (at + 1) (48 + c.args.pair % 10))), drop-set text (at + 1) _ (omega arith), e)
