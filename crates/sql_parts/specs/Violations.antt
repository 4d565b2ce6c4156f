-- Why a text doesn't fit where a statement takes it: the first reason that holds, in a fixed order.
use Rattle.std.specs.Prelude.{ℕ, Bool, not, ◌||◌, List, [], ◌∷◌, Option, codes, find}
use Rattle.sql_parts.specs.Fragments.{balanced, brackets_match, encloses_clauses, has_clause_word, has_dialect_word, has_top_level, is_joining, is_word}
use Rattle.sql_parts.specs.Operands.{is_bare_operand, is_fragment, is_typed_fragment, is_typed_operand}
use Rattle.sql_parts.specs.Tokens.{begins_with, closed, has_semicolon, is_empty, tokens}
use Rattle.sql_parts.specs.declared.violations.Requirement.{Requirement}
use Rattle.sql_parts.specs.declared.violations.Requirement.TheVariants.{Balanced, Fragment, Operand, TypedFragment, TypedOperand}
use Rattle.sql_parts.specs.declared.violations.Violation.{Violation}
use Rattle.sql_parts.specs.declared.violations.Violation.TheVariants.{Blank, Open, Semicolon, Brackets, ClauseWord, DialectWord, Joined, CaseWord}

-- the message of a reason
abbrev pub violation_text : Violation → List ℕ
violation_text Blank = codes "No token"
violation_text Open = codes "A quote or a comment has no end"
violation_text Semicolon = codes "A semicolon"
violation_text Brackets = codes "Brackets don't match"
violation_text ClauseWord = codes "A top-level clause keyword"
violation_text DialectWord = codes "A top-level word that begins a clause in some databases"
violation_text Joined = codes "A top-level OR, AND or BETWEEN, or a leading NOT"
violation_text CaseWord = codes "A clause keyword or an open bracket between CASE and END"

-- a text meets what is asked of it
abbrev pub meets : Requirement → List ℕ → Bool
meets Balanced text = balanced text
meets Fragment text = is_fragment text
meets Operand text = is_bare_operand text
meets TypedFragment text = is_typed_fragment text
meets TypedOperand text = is_typed_operand text

-- a reason holds of a text
abbrev pub holds_of : List ℕ → Violation → Bool
holds_of text Blank = is_empty (tokens text)
holds_of text Open = not (closed text)
holds_of text Semicolon = has_semicolon text
holds_of text Brackets = not (brackets_match (tokens text))
holds_of text ClauseWord = has_clause_word text
holds_of text DialectWord = has_dialect_word text
holds_of text Joined = has_top_level is_joining (tokens text) || begins_with (is_word (codes "NOT")) (tokens text)
holds_of text CaseWord = not (encloses_clauses 0 (tokens text))

-- the reasons that count, in their order: those against balance, and what more is asked
abbrev pub reasons : Requirement → List Violation
reasons requirement = Blank ∷ Open ∷ Semicolon ∷ Brackets ∷ further requirement
  where
    further : Requirement → List Violation
    further Balanced = []
    further Fragment = ClauseWord ∷ []
    further Operand = ClauseWord ∷ Joined ∷ []
    further TypedFragment = ClauseWord ∷ DialectWord ∷ CaseWord ∷ []
    further TypedOperand = ClauseWord ∷ DialectWord ∷ Joined ∷ CaseWord ∷ []

-- the first of them that holds
unfoldable pub violation : Requirement → List ℕ → Option Violation
violation requirement text = find (holds_of text) (reasons requirement)
