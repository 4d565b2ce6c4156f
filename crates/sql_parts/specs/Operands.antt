-- Texts that are one operand wherever a statement takes one: literals, and names between quotes.
use Rattle.std.specs.Prelude.{ℕ, Bool, true, not, ◌&&◌, ◌||◌, IsTrue, List, Option, Some, None}
use Rattle.std.specs.List.{list_all}
use Rattle.sql_parts.specs.Fragments.{balanced, encloses_clauses, has_clause_word, has_dialect_word, operand}
use Rattle.sql_parts.specs.Name.{Name, is_plain, name_parts, name_text}
use Rattle.sql_parts.specs.Tokens.{closed, tokens}

-- A text is an operand, is balanced and closed, and has no top-level clause keyword.
pub record ServesAsOperand (text : List ℕ) : Type 0 where
  pub is_operand : IsTrue (operand text)
  pub is_balanced : IsTrue (balanced text)
  pub is_closed : IsTrue (closed text)
  pub no_clause_word : IsTrue (not (has_clause_word text))

-- a text is balanced and has no top-level clause keyword
abbrev pub is_fragment : List ℕ → Bool
is_fragment text = balanced text && not (has_clause_word text)

-- a text that is written bare is an operand without a top-level clause keyword
abbrev pub is_bare_operand : List ℕ → Bool
is_bare_operand text = operand text && not (has_clause_word text)

-- a text has no top-level word that begins a clause in some databases, and no clause outside of brackets where CASE and END are names
abbrev pub has_no_clause : List ℕ → Bool
has_no_clause text = not (has_dialect_word text) && encloses_clauses 0 (tokens text)

-- a fragment without such a clause
abbrev pub is_typed_fragment : List ℕ → Bool
is_typed_fragment text = is_fragment text && has_no_clause text

-- an operand without a top-level clause keyword and without such a clause
abbrev pub is_typed_operand : List ℕ → Bool
is_typed_operand text = is_bare_operand text && has_no_clause text

-- the alias, if there is one, is written between backquotes, or is an operand without a top-level clause keyword
abbrev pub is_operand_alias : Option (List ℕ) → Bool
is_operand_alias None = true
is_operand_alias (Some alias) = not (is_plain alias) || is_bare_operand alias

-- the safe form writes each part between backquotes, or each is an operand without a top-level clause keyword
abbrev pub has_operand_parts : Name → Bool
has_operand_parts name = not (list_all is_plain (name_parts name)) || list_all is_bare_operand (name_parts name)

-- a name whose parts are written so is an operand, with an alias that is one
abbrev pub NamesAreOperands : (List ℕ → List ℕ) → Type 0
NamesAreOperands written = (name : Name) → IsTrue (is_operand_alias name.alias) → ServesAsOperand (name_text written name)
