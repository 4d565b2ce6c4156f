use Rattle.std.specs.List.{count_by}
use Rattle.sql_builder.proofs.Imports.{list_any, length, not, refl, length-map, is_clause_word, blank, blank_token, is_open, is_semicolon, any-blank, ignores}
use Rattle.sql_parts.specs.Fragments.{has_top_level, is_balanced, is_dangling, is_operand}
use Rattle.sql_parts.proofs.fragments.StringTextFacts.{count-blank, has_top_level-blank, is_balanced-blank, is_dangling-blank, is_operand-blank}
use Rattle.sql_builder.specs.{blank_clauses}
use Rattle.sql_builder.proofs.interference.{blank_clauses-ignore, quoted_places-same, quoted_texts-apart, quoted_texts-ignored, quoted_texts-strings}
use Rattle.sql_builder.proofs.laws.quoted_texts_do_not_interfere.Goals as goal

pub returns : goal.returns
returns c = record {
  tokens = λ start one other finish differ is. quoted_texts-apart start one other finish differ is;
  places = λ start one other finish differ. quoted_places-same start one other finish differ;
  strings = quoted_texts-strings;
  outline = quoted_texts-ignored blank (λ one other same. same);
  count = quoted_texts-ignored length (ignores length (λ ts. length-map ts blank_token));
  semicolons = quoted_texts-ignored (count_by is_semicolon) (ignores (count_by is_semicolon) (count-blank is_semicolon (λ text. refl)));
  clauses = quoted_texts-ignored blank_clauses blank_clauses-ignore;
  closed =
      quoted_texts-ignored (λ ts. not (list_any is_open ts))
      (ignores (λ ts. not (list_any is_open ts)) (λ ts i. not (any-blank is_open (λ text. refl) ts i)));
  balanced = quoted_texts-ignored is_balanced (ignores is_balanced is_balanced-blank);
  operand = quoted_texts-ignored is_operand (ignores is_operand is_operand-blank);
  clause_word = quoted_texts-ignored (has_top_level is_clause_word)
      (ignores (has_top_level is_clause_word) (has_top_level-blank is_clause_word (λ text. refl)));
  dangling = quoted_texts-ignored is_dangling (ignores is_dangling is_dangling-blank);
}
