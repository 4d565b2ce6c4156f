use Rattle.std.proofs.Common.{◌≤◌, ◌-◌, ◌∙◌, arith, length-set}
use Rattle.sqlb.proofs.bytes.DecimalFacts.{room, last_digit, next_digit}
use Rattle.sqlb.proofs.output.write_digits.Goals as goal

pub overflow_sub-start : goal.overflow_sub-start
overflow_sub-start c =
    let progress = c.digits.invariant in
    room c.digits.digits c.digits.start c.digits.rest c.args.number progress.0 progress.1 progress.2 c.ranges.number.fits progress.3

pub digits-smaller : goal.digits-smaller
digits-smaller c =
    let progress = c.digits.invariant in
    let some : 1 ≤ c.digits.start = room c.digits.digits c.digits.start c.digits.rest c.args.number progress.0 progress.1 progress.2 c.ranges.number.fits
    progress.3 in
    omega (arith, some)

pub returns-then-rest-eq0-clause-digits : goal.returns-then-rest-eq0-clause-digits
returns-then-rest-eq0-clause-digits c =
    let progress = c.digits.invariant in
    let some = room c.digits.digits c.digits.start c.digits.rest c.args.number progress.0 progress.1 progress.2 c.ranges.number.fits progress.3 in
    last_digit c.digits.digits c.digits.start c.digits.rest c.args.number progress.0 some progress.1 c.if-rest-eq0.true progress.3

pub digits-preserved : goal.digits-preserved
digits-preserved c =
    let progress = c.digits.invariant in
    let some = room c.digits.digits c.digits.start c.digits.rest c.args.number progress.0 progress.1 progress.2 c.ranges.number.fits progress.3 in (
      length-set c.digits.digits (c.digits.start - 1) _ ∙ progress.0,
      omega (arith, progress.1),
      omega (arith, progress.2),
      next_digit c.digits.digits c.digits.start c.digits.rest c.args.number progress.0 some progress.1 progress.2 c.if-rest-eq0.false progress.3,
    )
