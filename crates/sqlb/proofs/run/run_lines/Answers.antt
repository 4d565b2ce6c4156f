use Rattle.sqlb.proofs.Imports.{◌++◌, ◌<◌, ◌^◌, ℕ, List, arith, refl, ap, ◌∙◌, sym, subst, length, Appends, Appends-nil, err_from_is_err_and}
use Rattle.sqlb.specs.{lines}
use Rattle.sqlb.proofs.outcomes.{rejected-holds_no_memory, at_end-fails_only_to_write, at_end-no_memory, command_of-line, ends-at_end, fails-in, line_text}
use Rattle.sqlb.proofs.outcomes.{progress-first, progress-next, rejects, runs_out, unread_first}
use Rattle.sqlb.proofs.run.run_lines.Goals as goal

pub lines-init : goal.lines-init
lines-init g c =
    let text = c.lines_of_text-has_invalid_line.result.0.now in
    let short : length text < 2 ^ 63 = omega (arith, c.lines_of_text-has_invalid_line.type_inv) in
    let cut = c.lines_of_text-has_invalid_line.ensures in
    let all = unread_first c.lines_of_text-has_invalid_line.result.1 c.args.input.now text cut.whole cut.cut in
    rw (c.of-arguments.ensures.behind, c.requires.none_open) record {
      not_failed = c.requires.not_failed;
      ended = refl;
      retried = refl;
      counted = omega (arith, short);
      taken = c.of-arguments.ensures.parts;
      ahead = (all.0, all.1, progress-first _ c.args.input.now _ all.2);
    }

pub returns-in_err-write_line-in-Ok-true-clause-ran : goal.returns-in_err-write_line-in-Ok-true-clause-ran
returns-in_err-write_line-in-Ok-true-clause-ran g c =
    let next = c.next_line.ensures.line c.lines-test.true in
    let ahead = ap (λ l. l ++ c.lines.invariant.ahead.0) next.first in
    let accepts = rw c.in-Ok-true.field-0-test at c.in-Ok-true.ensures.answer in
    let wrote = rw c.deref.ensures at c.in_err-write_line-in-Ok-true.ensures.wrote in
    let p = err_from_is_err_and c.from_residual.result c.from_residual.ensures.1 in
    fails-in c.lines.invariant.ahead.2 (command_of-line _ _ next) ahead _ _ _ _ _ accepts wrote (rw (p.1, p.2))

pub lines-preserved-in-Continue-1 : goal.lines-preserved-in-Continue-1
lines-preserved-in-Continue-1 g c =
    let next = c.next_line.ensures.line c.lines-test.true in
    let ahead = ap (λ l. l ++ c.lines.invariant.ahead.0) next.first in
    let accepts = rw c.in-Ok-true.field-0-test at c.in-Ok-true.ensures.answer in
    let wrote = rw c.deref.ensures at c.in_ok-write_line-in-Ok-true.ensures.wrote in
    let now = subst (Appends _ _) (wrote.2.0 ∙ line_text _) wrote.1 in
    rw (c.in-Ok-true.ensures.taken.1) record {
      not_failed = wrote.2.1;
      ended = c.write_line.ensures.ended ∙ c.lines.invariant.ended;
      retried = c.write_line.ensures.retried ∙ c.lines.invariant.retried;
      counted = omega (arith, c.lines.invariant.counted, next.shorter);
      taken = c.in-Ok-true.ensures.taken.0;
      ahead = (
        c.lines.invariant.ahead.0,
        c.lines.invariant.ahead.1,
        progress-next c.lines.invariant.ahead.2 (command_of-line _ _ next) ahead accepts c.in-Ok-true.ensures.after now,
      );
    }

pub lines-preserved : goal.lines-preserved
lines-preserved g c =
    let next = c.next_line.ensures.line c.lines-test.true in
    let ahead = ap (λ l. l ++ c.lines.invariant.ahead.0) next.first in
    let accepts = rw c.in-Ok-false.field-0-test at c.in-Ok-false.ensures.answer in
    rw (c.in-Ok-false.ensures.taken.1) record {
      not_failed = c.lines.invariant.not_failed;
      ended = c.lines.invariant.ended;
      retried = c.lines.invariant.retried;
      counted = omega (arith, c.lines.invariant.counted, next.shorter);
      taken = c.in-Ok-false.ensures.taken.0;
      ahead = (
        c.lines.invariant.ahead.0,
        c.lines.invariant.ahead.1,
        progress-next c.lines.invariant.ahead.2 (command_of-line _ _ next) ahead accepts c.in-Ok-false.ensures.after (Appends-nil _),
      );
    }

pub returns-in-Err-Rejected-clause-ran : goal.returns-in-Err-Rejected-clause-ran
returns-in-Err-Rejected-clause-ran g c =
    let next = c.next_line.ensures.line c.lines-test.true in
    let ahead = ap (λ l. l ++ c.lines.invariant.ahead.0) next.first in
    let rejected = rw c.in-Err-Rejected.field-0-is at c.in-Err-Rejected.ensures.answer in
    rw c.in-Err-Rejected.field-0-is (rejects c.lines.invariant.ahead.2 (command_of-line _ _ next) ahead rejected)

pub returns-in-Err-Rejected-clause-no_memory : goal.returns-in-Err-Rejected-clause-no_memory
returns-in-Err-Rejected-clause-no_memory g c =
    let rejected = rw c.in-Err-Rejected.field-0-is at c.in-Err-Rejected.ensures.answer in
    rw c.in-Err-Rejected.field-0-is (rejected-holds_no_memory _ _ _ rejected)

pub returns-in-Err-Memory-clause-ran : goal.returns-in-Err-Memory-clause-ran
returns-in-Err-Memory-clause-ran g c =
    let next = c.next_line.ensures.line c.lines-test.true in
    let ahead = ap (λ l. l ++ c.lines.invariant.ahead.0) next.first in
    let accepts = rw c.in-Err-Memory.field-0-is at c.in-Err-Memory.ensures.answer in
    runs_out c.lines.invariant.ahead.2 (command_of-line _ _ next) ahead accepts

pub returns-clause-ran : goal.returns-clause-ran
returns-clause-ran g c =
    let ahead = ap (λ (rest : List ℕ). lines rest ++ c.lines.invariant.ahead.0) (c.next_line.ensures.none c.lines-test.false) in
    rw c.check_end.ensures.end (ends-at_end c.lines.invariant.ahead.2 _ _ c.lines.invariant.ahead.1 ahead (sym c.is_open-is_open.ensures.is_open))

pub returns-clause-failed : goal.returns-clause-failed
returns-clause-failed g c = rw c.check_end.ensures.end (at_end-fails_only_to_write _ _ _ c.lines.invariant.not_failed)

pub returns-clause-no_memory : goal.returns-clause-no_memory
returns-clause-no_memory g c = rw c.check_end.ensures.end (at_end-no_memory _ _ _)
