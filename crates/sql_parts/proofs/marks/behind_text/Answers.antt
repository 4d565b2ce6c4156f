use Rattle.std.proofs.Common.{◌∙◌, drop, sym}
use Rattle.sql_parts.proofs.parameters.MarkLemmas.{stays-name, stays-token}
use Rattle.sql_parts.proofs.marks.behind_text.Goals as goal

pub returns-then-is_word_byte : goal.returns-then-is_word_byte
returns-then-is_word_byte c style =
    stays-name style c.args.first c.args.text.now c.behind_name.result.now c.requires.first c.requires.no_sign.0 c.requires.no_sign.1
    (sym c.is_word_byte.ensures ∙ c.if-is_word_byte.true) c.behind_name.ensures

pub returns-else-is_word_byte : goal.returns-else-is_word_byte
returns-else-is_word_byte c style =
    stays-token style c.args.first (drop 1 c.args.text.now) c.read.result c.requires.no_sign.0 c.requires.no_sign.1
    (sym c.is_word_byte.ensures ∙ c.if-is_word_byte.false) c.read.ensures
