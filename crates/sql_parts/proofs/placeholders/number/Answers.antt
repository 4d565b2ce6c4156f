use Rattle.sql_parts.proofs.Imports.{◌≡◌, ◌<◌, ◌∙◌, length, get_or, take, drop, sym, ap, arith, below_more, true, false, subst, is_ascii_digit, prefix_len}
use Rattle.sql_parts.proofs.Imports.{IsCharBoundary, IsUtf8, digits_value, prefix_len_is}
use Rattle.sql_parts.specs.{IsNumber}
use Rattle.sql_parts.proofs.templates.{number-more}
use Rattle.sql_parts.proofs.templates.PlaceholderLemmas.{cut-behind}
use Rattle.sql_parts.proofs.placeholders.number.Goals as goal
use Rattle.sql_parts.proofs.placeholders.number.Goals.{After-range_from, then-loop-end-test+else-is_ascii_digit, else-loop-end-test}

pub loop-end-preserved : goal.loop-end-preserved
loop-end-preserved c =
    let digit : is_ascii_digit (get_or c.as_bytes-bytes.result.now c.loop-end.end 0) ≡ true = sym c.is_ascii_digit.ensures.value ∙ c.if-is_ascii_digit.true in
    record {
      within = omega arith;
      digits = below_more _ _ c.loop-end.invariant.digits digit;
      value = number-more _ c.as_bytes-bytes.result.now c.loop-end.end (omega arith) digit (c.with_digit-number.ensures _ c.loop-end.invariant.value);
    }

pub range_from-requires : goal.range_from-requires
range_from-requires c = λ some.
    let same = c.as_bytes-bytes.ensures.value in
    subst (λ text. IsCharBoundary text c.loop-end.end) same
    (cut-behind c.as_bytes-bytes.result.now c.loop-end.end (subst IsUtf8 (sym same) c.utf8.text) c.loop-end.invariant.within c.loop-end.invariant.digits some)

stops : (c : After-range_from) → c.loop-end.end < length c.as_bytes-bytes.result.now
    → is_ascii_digit (get_or c.as_bytes-bytes.result.now c.loop-end.end 0) ≡ false
stops c inside =
    elim c.loop-end-test.branch [
      | then-loop-end-test+else-is_ascii_digit w ↦ sym w.is_ascii_digit.ensures.value ∙ w.if-is_ascii_digit.false
      | else-loop-end-test w ↦ absurd (omega arith)
    ]

digits : (c : After-range_from) → prefix_len is_ascii_digit c.args.text.now ≡ c.loop-end.end
digits c =
    ap (prefix_len is_ascii_digit) (sym c.as_bytes-bytes.ensures.value)
    ∙ prefix_len_is is_ascii_digit c.as_bytes-bytes.result.now c.loop-end.end 0 c.loop-end.invariant.within c.loop-end.invariant.digits (stops c)

pub returns-clause-number : goal.returns-clause-number
returns-clause-number c =
    let at = digits (goal.at.returns-clause-number c).After-range_from in
    subst (λ n. IsNumber c.loop-end.number (digits_value 10 (take n c.args.text.now))) (sym at)
    (subst (λ text. IsNumber c.loop-end.number (digits_value 10 (take c.loop-end.end text))) c.as_bytes-bytes.ensures.value c.loop-end.invariant.value)

pub returns-clause-rest : goal.returns-clause-rest
returns-clause-rest c =
    let at = digits (goal.at.returns-clause-rest c).After-range_from in
    c.range_from.ensures.value ∙ ap (λ n. drop n c.args.text.now) (sym at)
