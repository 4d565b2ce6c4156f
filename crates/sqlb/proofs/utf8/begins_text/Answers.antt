use Rattle.std.proofs.Common.{arith, eqb-true}
use Rattle.sqlb.proofs.bytes.Utf8Facts.{AreShort, masks_fit, narrow_begins, wide_begins}
use Rattle.sqlb.proofs.utf8.begins_text.Goals as goal

pub overflow_add-twos : goal.overflow_add-twos
overflow_add-twos c = record { fits = omega (arith, masks_fit c.args.block c.fits-block, c.bytes_within-twos.ensures, c.bytes_within-tails.ensures) }

pub returns-then-high-twos : goal.returns-then-high-twos
returns-then-high-twos c same =
    let twos = c.bytes_within-twos.ensures in
    let tails = c.bytes_within-tails.ensures in
    narrow_begins c.args.block c.fits-block (omega (arith, c.bytes_within-high.ensures, c.if-high-twos.true)) (omega (arith, eqb-true _ _ same))

pub overflow_add-twos-2 : goal.overflow_add-twos-2
overflow_add-twos-2 c =
    let fit = masks_fit c.args.block c.fits-block in
    record { fits = omega (arith, fit, c.bytes_within-twos.ensures, c.bytes_within-threes.ensures, c.bytes_within-tails.ensures) }

pub overflow_add-twos-3 : goal.overflow_add-twos-3
overflow_add-twos-3 c = record { fits = omega (arith, masks_fit c.args.block c.fits-block, c.bytes_within-twos.ensures, c.bytes_within-threes.ensures) }

pub returns : goal.returns
returns c same =
    let twos = c.bytes_within-twos.ensures in
    let threes = c.bytes_within-threes.ensures in
    let tails = c.bytes_within-tails.ensures in
    let short : AreShort c.args.block = record {
      all = omega (arith, c.if-high-twos-2.false, c.bytes_within-high.ensures);
      none = omega (arith, c.if-bytes_within-ne0.false, c.bytes_within.ensures);
    } in
    wide_begins c.args.block c.fits-block short (omega (arith, eqb-true _ _ same))
