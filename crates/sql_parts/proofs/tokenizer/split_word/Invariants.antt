use Rattle.std.proofs.Common.{◌≡◌, ℕ, ◌<◌, ◌≤◌, ◌-◌, length, get_or, true}
use Rattle.sql_parts.specs.Tokens.{is_word_byte}
use Rattle.sql_parts.proofs.tokenizer.split_word.Given as goal

abbrev pub invariant-loop-end : goal.invariant-loop-end
invariant-loop-end l = record {
  within : l.end ≤ length l.bytes;
  words : (i : ℕ) → i < l.end → is_word_byte (get_or l.bytes i 0) ≡ true;
}

abbrev pub decreases-loop-end : goal.decreases-loop-end
decreases-loop-end l = length l.bytes - l.end
