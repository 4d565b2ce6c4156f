-- Worked rows of texts that are operands, and of those that are none: what the definitions give, by computing.
use Rattle.sql_parts.proofs.Imports.{◌≡◌, ℕ, Bool, List, true, false, codes, negsuc, pos, refl}
use Rattle.sql_parts.specs.{balanced, has_clause_word, operand, null, truth, whole, words, literal_text, name_of, name_text, safe_text, with_alias}
use Rattle.sql_parts.specs.Name.{Name}
use Rattle.sql_parts.specs.{with_part, has_operand_parts, is_operand_alias, baquoted, brquoted, dquoted, quoted, closed}

-- whether a text is an operand, balanced and closed, and has a clause word
abbrev tests : List ℕ → Bool × Bool × Bool × Bool
tests text = (operand text, balanced text, closed text, has_clause_word text)

-- ---- literals

null-row : tests (literal_text null) ≡ (true, true, true, false)
null-row = refl

true-row : tests (literal_text (truth true)) ≡ (true, true, true, false)
true-row = refl

negative-row : tests (literal_text (whole (negsuc 4))) ≡ (true, true, true, false)
negative-row = refl

number-row : tests (literal_text (whole (pos 25000))) ≡ (true, true, true, false)
number-row = refl

words-row : tests (literal_text (words (codes "a OR 'b'; SELECT (1"))) ≡ (true, true, true, false)
words-row = refl

empty-row : tests (literal_text (words (codes ""))) ≡ (true, true, true, false)
empty-row = refl

-- the same text is none without its quotes
bare-row : tests (codes "a OR 'b'; SELECT (1") ≡ (false, false, true, true)
bare-row = refl

-- ---- names

abbrev keywords : Name
keywords = with_part (codes "end") (name_of (codes "select"))

quoted-row : tests (name_text quoted keywords) ≡ (true, true, true, false)
quoted-row = refl

backquoted-row : tests (name_text baquoted keywords) ≡ (true, true, true, false)
backquoted-row = refl

-- the safe form writes them bare
safe-row : tests (safe_text keywords) ≡ (false, false, true, true)
safe-row = refl

safe-asked : has_operand_parts keywords ≡ false
safe-asked = refl

-- but for a part that isn't plain
safe_quoted-row : tests (safe_text (with_part (codes "B") keywords)) ≡ (true, true, true, false)
safe_quoted-row = refl

safe_quoted-asked : has_operand_parts (with_part (codes "B") keywords) ≡ true
safe_quoted-asked = refl

safe_plain-row : tests (safe_text (with_part (codes "books") (name_of (codes "public")))) ≡ (true, true, true, false)
safe_plain-row = refl

-- ---- aliases

alias-row : tests (name_text brquoted (with_alias (codes "b") (name_of (codes "a]")))) ≡ (true, true, true, false)
alias-row = refl

clause_alias-row : tests (name_text dquoted (with_alias (codes "from") (name_of (codes "a")))) ≡ (true, true, true, true)
clause_alias-row = refl

clause_alias-asked : is_operand_alias (with_alias (codes "from") (name_of (codes "a"))).alias ≡ false
clause_alias-asked = refl

case_alias-row : tests (name_text dquoted (with_alias (codes "case") (name_of (codes "a")))) ≡ (false, false, true, false)
case_alias-row = refl

case_alias-asked : is_operand_alias (with_alias (codes "case") (name_of (codes "a"))).alias ≡ false
case_alias-asked = refl

-- an alias that isn't plain is between backquotes
quoted_alias-row : tests (name_text dquoted (with_alias (codes "FROM") (name_of (codes "a")))) ≡ (true, true, true, false)
quoted_alias-row = refl
