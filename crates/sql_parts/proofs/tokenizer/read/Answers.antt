use Rattle.std.proofs.Common.{◌∙◌, sym}
use Rattle.sql_parts.specs.Tokens.{Name, Str}
use Rattle.sql_parts.proofs.tokens.FirstTokenLemmas.{cut-first, word-read}
use Rattle.sql_parts.proofs.tokenizer.read.Goals as goal

pub returns-then-is_word_byte : goal.returns-then-is_word_byte
returns-then-is_word_byte c =
    word-read c.args.first c.args.text.now c.split_word.result.0 c.split_word.result.1 c.requires.first
    (sym c.is_word_byte.ensures ∙ c.if-is_word_byte.true) c.split_word.ensures.word c.split_word.ensures.rest

pub range_from-behind-requires : goal.range_from-behind-requires
range_from-behind-requires c = λ some. cut-first c.args.first c.args.text.now c.utf8.text c.requires.first
    (sym c.is_word_byte.ensures ∙ c.if-is_word_byte.false)

pub returns-in-39 : goal.returns-in-39
returns-in-39 c = rw c.in-39.is (rw c.range_from-behind.ensures.value at c.read_quoted.ensures Str (λ text. tt))

pub returns-in-34 : goal.returns-in-34
returns-in-34 c = rw c.in-34.is (rw c.range_from-behind.ensures.value at c.read_quoted-in-34.ensures Name (λ text. tt))

pub returns-in-96 : goal.returns-in-96
returns-in-96 c = rw c.in-96.is (rw c.range_from-behind.ensures.value at c.read_quoted-in-96.ensures Name (λ text. tt))

pub returns-in-91 : goal.returns-in-91
returns-in-91 c = rw c.in-91.is (rw c.range_from-behind.ensures.value at c.read_quoted-in-91.ensures Name (λ text. tt))
