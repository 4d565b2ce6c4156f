use Rattle.sql_parts.proofs.Imports.{count_by, list_any, not, refl}
use Rattle.sql_parts.specs.{has_top_level, is_balanced, is_clause_word, is_dangling, is_operand, blank, is_open, is_semicolon}
use Rattle.sql_parts.proofs.fragments.{any-blank, count-blank, has_top_level-blank, ignores, is_balanced-blank, is_dangling-blank, is_operand-blank}
use Rattle.sql_parts.proofs.templates.{arguments-differ, bound_places-kept, bound_texts-apart, bound_texts-ignored, bound_texts-strings, names-differ}
use Rattle.sql_parts.proofs.laws.bound_texts_do_not_interfere.Goals as goal

pub returns : goal.returns
returns c = record {
  tokens = bound_texts-apart;
  places = bound_places-kept;
  strings = bound_texts-strings;
  outline = bound_texts-ignored blank (λ one other same. same);
  semicolons = bound_texts-ignored (count_by is_semicolon) (ignores (count_by is_semicolon) (count-blank is_semicolon (λ text. refl)));
  closed =
      bound_texts-ignored (λ ts. not (list_any is_open ts))
      (ignores (λ ts. not (list_any is_open ts)) (λ ts i. not (any-blank is_open (λ text. refl) ts i)));
  balanced = bound_texts-ignored is_balanced (ignores is_balanced is_balanced-blank);
  operand = bound_texts-ignored is_operand (ignores is_operand is_operand-blank);
  clause_word = bound_texts-ignored (has_top_level is_clause_word) (ignores (has_top_level is_clause_word) (has_top_level-blank is_clause_word (λ text. refl)));
  dangling = bound_texts-ignored is_dangling (ignores is_dangling is_dangling-blank);
  arguments = arguments-differ;
  names = names-differ;
}
