use Rattle.sql_parts.proofs.Imports.{◌≡◌, ◌<◌, ◌∙◌, below_more, length, get_or, take, drop, sym, ap, arith, false, prefix_len, prefix_len_is}
use Rattle.sql_parts.specs.{is_word_byte}
use Rattle.sql_parts.proofs.tokenizer.split_word.Goals as goal
use Rattle.sql_parts.proofs.tokenizer.split_word.Goals.{After-split_at, then-loop-end-test+else-is_word_byte, else-loop-end-test}

stops : (c : After-split_at) → c.loop-end.end < length c.as_bytes-bytes.result.now → is_word_byte (get_or c.as_bytes-bytes.result.now c.loop-end.end 0) ≡ false
stops c inside =
    elim c.loop-end-test.branch [
      | then-loop-end-test+else-is_word_byte w ↦ sym w.is_word_byte.ensures ∙ w.if-is_word_byte.false
      | else-loop-end-test w ↦ absurd (omega arith)
    ]

word : (c : After-split_at) → prefix_len is_word_byte c.args.text.now ≡ c.loop-end.end
word c =
    ap (prefix_len is_word_byte) (sym c.as_bytes-bytes.ensures.value)
    ∙ prefix_len_is is_word_byte c.as_bytes-bytes.result.now c.loop-end.end 0 c.loop-end.invariant.within c.loop-end.invariant.words (stops c)

pub returns-clause-word : goal.returns-clause-word
returns-clause-word c = c.split_at.ensures.front ∙ ap (λ n. take n c.args.text.now) (sym (word c))

pub returns-clause-rest : goal.returns-clause-rest
returns-clause-rest c = c.split_at.ensures.back ∙ ap (λ n. drop n c.args.text.now) (sym (word c))

pub loop-end-preserved : goal.loop-end-preserved
loop-end-preserved c = record {
  within = omega arith;
  words = below_more _ _ c.loop-end.invariant.words (sym c.is_word_byte.ensures ∙ c.if-is_word_byte.true);
}
