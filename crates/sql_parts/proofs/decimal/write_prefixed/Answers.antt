use Rattle.sql_parts.proofs.Imports.{◌≡◌, ◌+◌, ◌-◌, append-nil, arith, length, drop-set, drop_all}
use Rattle.sql_parts.proofs.decimal.write_prefixed.Goals as goal

pub overflow_sub-start : goal.overflow_sub-start
overflow_sub-start c = omega arith

pub returns-clause-written : goal.returns-clause-written
returns-clause-written c =
    let w = c.write_digits-start in
    let text = c.args.text.now in
    let e : w.result - 1 + 1 ≡ w.result = omega arith in
    rw (drop-set w.new.text (w.result - 1) c.args.prefix (omega arith), e, w.ensures.written, drop_all (length text) text (omega arith), append-nil)
