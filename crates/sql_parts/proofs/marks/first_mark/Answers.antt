use Rattle.std.proofs.Common.{◌≡◌, ◌-◌, ◌∷◌, ◌∙◌, ap, arith, drop, length, rules, take}
use Rattle.sql_parts.proofs.parameters.MarkLemmas.{before-further, marked-behind, reads-less, reads-none, reads-some}
use Rattle.sql_parts.proofs.marks.first_mark.Goals as goal

pub returns-in-Some-mark-clause-mark : goal.returns-in-Some-mark-clause-mark
returns-in-Some-mark-clause-mark c =
    let rest = c.loop-first.rest.now in
    let front : rest ≡ c.in-Some.first.now ∷ drop 1 rest = search rules in
    let whole : length c.args.text.now - length rest - 0 ≡ length c.args.text.now - length rest = omega arith in
    marked-behind c.args.style c.args.text.now rest c.range-segment.result.now c.read_mark-mark.result.1.now c.in-Some-mark.mark
    c.loop-first.invariant.before (c.range-segment.ensures.value ∙ ap (λ n. take n c.args.text.now) whole)
    (reads-some c.args.style c.in-Some.first.now rest c.read_mark-mark.result.0 c.in-Some-mark.mark c.read_mark-mark.result.1 front c.read_mark-mark.ensures
    c.in-Some-mark.is)

pub loop-first-preserved : goal.loop-first-preserved
loop-first-preserved c =
    let rest = c.loop-first.rest.now in
    let front : rest ≡ c.in-Some.first.now ∷ drop 1 rest = search rules in
    let less = reads-less c.args.style c.in-Some.first.now rest c.read_mark-mark.result front c.read_mark-mark.ensures in
    record {
      utf8 = search rules;
      within = omega (arith, less);
      before =
          before-further c.args.style c.args.text.now rest c.read_mark-mark.result.1.now c.loop-first.invariant.before
          (reads-none c.args.style c.in-Some.first.now rest c.read_mark-mark.result.0 c.read_mark-mark.result.1 front c.read_mark-mark.ensures
          c.in_default-mark.is);
    }
