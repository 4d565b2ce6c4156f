use Rattle.sql_parts.proofs.Imports.{◌-◌, ◌*◌, ◌/◌, ◌++◌, ◌∙◌, ap, append-nil, append_assoc, arith, drop, refl, sym, decimal, drop_all}
use Rattle.sql_parts.specs.{last_digits}
use Rattle.sql_parts.proofs.bytes.{decimal-base, length-base, longest}
use Rattle.sql_parts.proofs.decimal.write_number.Goals as goal

pub loop-left-init : goal.loop-left-init
loop-left-init c = record {
  within = omega arith;
  long = omega arith;
  start = refl;
  written = rw (drop_all 40 c.args.text.now (omega arith), append-nil);
}

pub write_last-end-requires : goal.write_last-end-requires
write_last-end-requires c =
    let l = c.loop-left in
    let long = length-base l.left (l.left / 10000000000000000000) refl (omega arith) l.auto.left-fits.fits in
    let most = longest c.args.number c.ranges.number.fits in (omega arith, omega arith, omega arith)

pub loop-left-preserved : goal.loop-left-preserved
loop-left-preserved c =
    let l = c.loop-left in
    let high = l.left / 10000000000000000000 in
    let low = l.left - high * 10000000000000000000 in
    let longer = length-base l.left high refl (omega arith) l.auto.left-fits.fits in
    record {
      within = omega arith;
      long = omega arith;
      start = omega arith;
      written = ap (λ t. decimal high ++ t) c.write_last-end.ensures.written
          ∙ sym (append_assoc (decimal high) (last_digits 19 low) (drop l.end l.text))
          ∙ ap (λ t. t ++ drop l.end l.text) (sym (decimal-base l.left high refl (omega arith) l.auto.left-fits.fits)) ∙ l.invariant.written;
    }

pub write_digits-requires : goal.write_digits-requires
write_digits-requires c = let most = longest c.args.number c.ranges.number.fits in (omega arith, omega arith)
