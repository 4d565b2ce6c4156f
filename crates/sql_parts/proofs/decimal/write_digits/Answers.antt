use Rattle.std.proofs.Common.{◌≡◌, ◌+◌, ◌-◌, arith, append_assoc}
use Rattle.sql_parts.proofs.bytes.DigitLemmas.{decimal-pair, length-pair}
use Rattle.sql_parts.proofs.decimal.write_digits.Goals as goal

pub overflow_sub-at : goal.overflow_sub-at
overflow_sub-at c = omega (arith, length-pair c.loop-left.left c.loop-left-test.true c.loop-left.auto.left-fits.fits)

pub overflow_sub-at-in-loop-left : goal.overflow_sub-at-in-loop-left
overflow_sub-at-in-loop-left c = omega (arith, length-pair c.loop-left.left c.loop-left-test.true c.loop-left.auto.left-fits.fits)

pub write_pair-requires : goal.write_pair-requires
write_pair-requires c = omega (arith, length-pair c.loop-left.left c.loop-left-test.true c.loop-left.auto.left-fits.fits)

pub loop-left-preserved : goal.loop-left-preserved
loop-left-preserved c =
    let l = c.loop-left in
    let long = length-pair l.left c.loop-left-test.true l.auto.left-fits.fits in
    let e : l.at - 2 + 2 ≡ l.at = omega arith in
    record {
      room = omega arith;
      within = omega arith;
      start = omega arith;
      written = rw (c.write_pair.ensures, e) (rw (decimal-pair l.left c.loop-left-test.true l.auto.left-fits.fits, append_assoc) at l.invariant.written);
    }
