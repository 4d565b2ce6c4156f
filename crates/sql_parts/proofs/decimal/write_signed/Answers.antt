use Rattle.sql_parts.proofs.Imports.{◌≡◌, ◌+◌, ◌-◌, arith, to_z-of_z, drop-set}
use Rattle.sql_parts.proofs.bytes.{longest, minus-first}
use Rattle.sql_parts.proofs.decimal.write_signed.Goals as goal

pub overflow_sub-text : goal.overflow_sub-text
overflow_sub-text c = omega (arith, longest c.unsigned_abs.result c.unsigned_abs.type_inv)

pub overflow_sub-result : goal.overflow_sub-result
overflow_sub-result c = omega (arith, longest c.unsigned_abs.result c.unsigned_abs.type_inv)

pub returns-clause-written : goal.returns-clause-written
returns-clause-written c =
    let w = c.write_number-start in
    let long = longest c.unsigned_abs.result c.unsigned_abs.type_inv in
    let e : w.result - 1 + 1 ≡ w.result = omega arith in
    let back = to_z-of_z c.ranges.number in
    rw (drop-set w.new.text (w.result - 1) 45 (omega arith), e, w.ensures.written, c.unsigned_abs.ensures.value, back)
    (minus-first c.args.number (rw back at c.if-number-ge0.false))
