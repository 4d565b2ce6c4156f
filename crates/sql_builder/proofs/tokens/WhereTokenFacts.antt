-- Words and signs as tokens, and the conditions and groups that a WHERE is made of.
use Rattle.sql_builder.proofs.Imports.{code, Bool, false, not, ◌&&◌, List, [], ◌∷◌, codes, list_all, is_clause_word, Token, Word, Symbol, has_top_level}
use Rattle.sql_builder.proofs.Imports.{is_balanced}

abbrev pub or_word : Token
or_word = Word (codes "OR")

abbrev pub and_word : Token
and_word = Word (codes "AND")

abbrev pub not_word : Token
not_word = Word (codes "NOT")

abbrev pub between_word : Token
between_word = Word (codes "BETWEEN")

abbrev pub like_word : Token
like_word = Word (codes "LIKE")

abbrev pub is_null_word : Token
is_null_word = Word (codes "IS")

abbrev pub null_word : Token
null_word = Word (codes "NULL")

abbrev pub in_word : Token
in_word = Word (codes "IN")

abbrev pub left_bracket : Token
left_bracket = Symbol (code "(")

abbrev pub right_bracket : Token
right_bracket = Symbol (code ")")

abbrev pub semicolon : Token
semicolon = Symbol (code ";")

-- a top-level word begins a clause
abbrev pub has_clause : List Token → Bool
has_clause ts = has_top_level is_clause_word ts

-- balanced, with no top-level clause keyword
abbrev pub is_condition : List Token → Bool
is_condition ts = is_balanced ts && not (has_clause ts)

abbrev pub is_group : List (List Token) → Bool
is_group [] = false
is_group (c ∷ cs) = list_all is_condition (c ∷ cs)

-- some groups, each of some conditions
unfoldable pub are_groups : List (List (List Token)) → Bool
are_groups [] = false
are_groups (g ∷ gs) = list_all is_group (g ∷ gs)
