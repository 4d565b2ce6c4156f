use Rattle.sql_typed.proofs.Imports.{◌∙◌, ◌+◌, ◌++◌, None, Some, ap, arith, drop, rules, string_bytes, sym, filled, texts, filled-none, uncut}
use Rattle.std.proofs.lemmas.Str.Pattern.{split_parts}
use Rattle.sql_typed.proofs.FilledLemmas.{filled_more, none_left, one_left}
use Rattle.sql_typed.proofs.template.filled.Goals.{else-loop-operand-test, then-loop-operand-test+in_default}
use Rattle.sql_typed.proofs.template.filled.Goals as goal

pub loop-operand-preserved : goal.loop-operand-preserved
loop-operand-preserved c =
    let cut = split_parts 63 c.loop-operand.rest.now (Some (c.in-Some.segment, c.in-Some.behind)) c.in-Some.ensures.cases (omega arith) in
    record {
      utf8 = search rules;
      is_filled =
          filled_more (string_bytes c.loop-operand.text) c.in-Some.segment.now (string_bytes c.operand-item.result) c.in-Some.behind.now c.loop-operand.rest.now
          (texts (drop (c.loop-operand.operand-index + 1) c.args.operands.now))
          (c.in_ok-push_str-2.ensures.bytes ∙ (λ i. c.in_ok-push_str.ensures.bytes i ++ c.as_str.ensures.value i))
          (one_left c.args.operands.now c.loop-operand.operand-index c.operand-item.result c.loop-operand-test.true c.operand-item.is) cut.0 cut.1
          ∙ c.loop-operand.invariant.is_filled;
    }

pub returns-clause-text : goal.returns-clause-text
returns-clause-text c = c.in_ok-push_str-3.ensures.bytes ∙ ap (λ t. string_bytes c.loop-operand.text ++ t) (elim c.loop-operand-test.branch [
  | else-loop-operand-test w ↦
      sym (ap (λ ts. filled ts c.loop-operand.rest.now) (none_left c.args.operands.now c.loop-operand.operand-index w.loop-operand-test.false)
      ∙ uncut c.loop-operand.rest.now)
  | then-loop-operand-test+in_default w ↦
      sym (filled-none (texts (drop c.loop-operand.operand-index c.args.operands.now)) c.loop-operand.rest.now
      (split_parts 63 c.loop-operand.rest.now None w.in_default.ensures.cases (omega arith)))
]) ∙ c.loop-operand.invariant.is_filled
