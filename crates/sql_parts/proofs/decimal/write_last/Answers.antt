use Rattle.std.proofs.Common.{◌≡◌, suc, ◌+◌, ◌-◌, ◌*◌, ◌/◌, ◌%◌, ◌^◌, ◌<◌, ◌++◌, ◌∙◌, ap, append_assoc, arith, drop, subst, sym}
use Rattle.sql_parts.specs.Decimal.{last_digits}
use Rattle.sql_parts.proofs.bytes.DigitLemmas.{last-four}
use Rattle.sql_parts.proofs.decimal.write_last.Goals as goal

pub loop-fours-preserved : goal.loop-fours-preserved
loop-fours-preserved c =
    let l = c.loop-fours in
    let text = l.text in
    let count = 19 - 4 * (l.fours + 1) in
    let more : 19 - 4 * l.fours ≡ suc (suc (suc (suc count))) = omega arith in
    let at : c.args.end - 4 * l.fours - 4 ≡ c.args.end - 4 * (l.fours + 1) = omega arith in
    let behind : c.args.end - 4 * l.fours - 4 + 4 ≡ c.args.end - 4 * l.fours = omega arith in
    let front = last_digits count (l.left / 10000) in
    let below : l.left < 10 ^ suc (suc (suc (suc count))) = subst (λ n. l.left < 10 ^ n) more l.invariant.below in
    record {
      below = omega arith;
      written = ap (λ n. front ++ drop n c.write_four.new.text) (sym at)
          ∙ ap (λ t. front ++ t) (c.write_four.ensures ∙ ap (λ n. last_digits 4 (l.left % 10000) ++ drop n text) behind)
          ∙ sym (append_assoc front (last_digits 4 (l.left % 10000)) (drop (c.args.end - 4 * l.fours) text))
          ∙ ap (λ t. t ++ drop (c.args.end - 4 * l.fours) text) (sym (last-four count l.left) ∙ ap (λ n. last_digits n l.left) (sym more))
          ∙ l.invariant.written;
    }
