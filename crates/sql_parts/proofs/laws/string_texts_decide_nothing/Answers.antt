use Rattle.sql_parts.proofs.Imports.{count_by, list_any, length, not, refl, length-map}
use Rattle.sql_parts.specs.{has_top_level, is_balanced, is_clause_word, is_dangling, is_operand, blank_token, is_open, is_semicolon}
use Rattle.sql_parts.proofs.fragments.{any-blank, count-blank, has_top_level-blank, ignores, is_balanced-blank, is_dangling-blank, is_operand-blank, somewhere}
use Rattle.sql_parts.proofs.laws.string_texts_decide_nothing.Goals as goal

pub returns : goal.returns
returns c = record {
  somewhere = somewhere;
  count = ignores length (λ ts. length-map ts blank_token);
  semicolons = ignores (count_by is_semicolon) (count-blank is_semicolon (λ text. refl));
  closed = ignores (λ ts. not (list_any is_open ts)) (λ ts i. not (any-blank is_open (λ text. refl) ts i));
  balanced = ignores is_balanced is_balanced-blank;
  operand = ignores is_operand is_operand-blank;
  clause_word = ignores (has_top_level is_clause_word) (has_top_level-blank is_clause_word (λ text. refl));
  dangling = ignores is_dangling is_dangling-blank;
}
