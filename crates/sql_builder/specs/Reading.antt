-- A statement as its clauses: as its tokens parse back, and as the builder's own words divide its pieces.
use Rattle.std.specs.Prelude.{Bool, Result, ◌||◌, if◌then◌else◌, List, [], ◌∷◌, ℕ, flat_map, map, codes}
use Rattle.std.specs.Result.{result_map_both}
use Rattle.sql_parts.specs.declared.error.SqlBuilderError.{SqlBuilderError}
use Rattle.sql_parts.specs.Fragments.{Placed, TopLevel, Nested, is_clause_word, is_word, placed}
use Rattle.sql_parts.specs.Tokens.{Token, Str, ends_with, is_semicolon, tokens}
use Rattle.sql_builder.specs.Calls.{CallText, FinishText, StartText}
use Rattle.sql_builder.specs.TokenParts.{before_top_level, but_last, parts_at}
use Rattle.sql_builder.specs.Statement.{pieces}
use Rattle.sql_builder.specs.Pieces.{Piece, Pieces, Fixed, Quoted, Raw}

-- A clause: its word, and the tokens up to the next clause's word.
abbrev pub Clause : Type 0
Clause = Token × List Token

-- without a `;` at the end
abbrev pub without_semicolon : List Token → List Token
without_semicolon ts = if ends_with is_semicolon ts then but_last ts else ts

-- the word UNION
abbrev pub is_union : Token → Bool
is_union token = is_word (codes "UNION") token

-- each top-level clause keyword with the tokens up to the next, before the first top-level UNION and without a last `;`
unfoldable pub read : List Token → List Clause
read ts = (parts_at is_clause_word (before_top_level is_union (placed (without_semicolon ts)))).rest

-- the tokens of a piece: those of a text of the builder's own count as top-level, whatever their nesting depth
abbrev pub own_placed : Piece → List Placed
own_placed (Fixed text) = map TopLevel (tokens text)
own_placed (Quoted text) = Nested (Str text) ∷ []
own_placed (Raw text) = map Nested (tokens text)

-- the clauses end before UNION, and before `;`
abbrev pub ends_clauses : Token → Bool
ends_clauses token = is_union token || is_semicolon token

-- each clause word of the builder's own with the tokens up to the next, before its first UNION and its `;`
unfoldable pub piece_clauses : Pieces → List Clause
piece_clauses printed = (parts_at is_clause_word (before_top_level ends_clauses (flat_map own_placed printed))).rest

-- the clauses of the pieces that are printed, or the error
abbrev pub clause_list : StartText → List CallText → FinishText → Result (List Clause) SqlBuilderError
clause_list start calls finish = result_map_both piece_clauses (λ error. error) (pieces start calls finish)

-- the body of each clause that begins with this word
abbrev pub clause_bodies : List ℕ → List Clause → List (List Token)
clause_bodies word clauses = flat_map (λ clause. if is_word word clause.0 then clause.1 ∷ [] else []) clauses
