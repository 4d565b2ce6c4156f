use Rattle.sql_parts.proofs.Imports.{◌≡◌, ◌<◌, ◌∙◌, below_more, length, get_or, drop, sym, ap, arith, false, prefix_len, prefix_len_is}
use Rattle.sql_parts.specs.{is_name_byte}
use Rattle.sql_parts.proofs.marks.behind_name.Goals as goal
use Rattle.sql_parts.proofs.marks.behind_name.Goals.{After-range_from, then-loop-end-test+else-is_name_byte, else-loop-end-test}

stops : (c : After-range_from) → c.loop-end.end < length c.as_bytes-bytes.result.now → is_name_byte (get_or c.as_bytes-bytes.result.now c.loop-end.end 0) ≡ false
stops c inside =
    elim c.loop-end-test.branch [
      | then-loop-end-test+else-is_name_byte w ↦ sym w.is_name_byte.ensures ∙ w.if-is_name_byte.false
      | else-loop-end-test w ↦ absurd (omega arith)
    ]

pub returns : goal.returns
returns c =
    c.range_from.ensures.value
    ∙ ap (λ n. drop n c.args.text.now)
    (sym (ap (prefix_len is_name_byte) (sym c.as_bytes-bytes.ensures.value)
    ∙ prefix_len_is is_name_byte c.as_bytes-bytes.result.now c.loop-end.end 0 c.loop-end.invariant.within c.loop-end.invariant.names (stops c)))

pub loop-end-preserved : goal.loop-end-preserved
loop-end-preserved c = record {
  within = omega arith;
  names = below_more _ _ c.loop-end.invariant.names (sym c.is_name_byte.ensures ∙ c.if-is_name_byte.true);
}
