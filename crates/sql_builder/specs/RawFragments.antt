-- Tests of the raw fragments among pieces: closed, without `;`, and fit, which leaves the clauses and the conditions of a
-- statement as the builder wrote them.
use Rattle.std.specs.Prelude.{Bool, true, false, not, ◌&&◌, ◌||◌, List, [], ◌∷◌, ◌++◌, filter_map, flat_map, length}
use Rattle.std.specs.List.{list_all, list_any}
use Rattle.sql_parts.specs.Fragments.{balanced, has_clause_word, is_top_level}
use Rattle.sql_parts.specs.Tokens.{Token, closed, has_semicolon, tokens}
use Rattle.sql_builder.specs.Builder.{ClauseTexts}
use Rattle.sql_builder.specs.Calls as call
use Rattle.sql_builder.specs.Calls.{CallText, FinishText, StartText, call_raw_texts, condition_in, finish_raw_texts, start_raw_texts}
use Rattle.sql_builder.specs.Condition.{condition_pieces}
use Rattle.sql_builder.specs.Filters.{until}
use Rattle.sql_builder.specs.Reading.{is_union}
use Rattle.sql_builder.specs.Pieces as text
use Rattle.sql_builder.specs.Pieces.{Piece, Pieces, Fixed, Quoted, raw_piece}
use Rattle.sql_builder.specs.RawTexts.{RawText, Bare, Enclosed}

-- a raw fragment is closed; the other pieces are no fragments
abbrev pub is_closed_piece : Piece → Bool
is_closed_piece (Fixed text) = true
is_closed_piece (Quoted text) = true
is_closed_piece (text.Raw text) = closed text

-- each fragment among the pieces is closed
abbrev pub has_closed_fragments : Pieces → Bool
has_closed_fragments printed = list_all is_closed_piece printed

-- a fragment has no `;` among its tokens
abbrev pub is_without_semicolon : Piece → Bool
is_without_semicolon (Fixed text) = true
is_without_semicolon (Quoted text) = true
is_without_semicolon (text.Raw text) = not (has_semicolon text)

-- no fragment among the pieces has one
abbrev pub has_no_semicolons : Pieces → Bool
has_no_semicolons printed = list_all is_without_semicolon printed

-- ---- fit fragments

-- the tokens of a piece, if it is of the builder's own
abbrev pub own_tokens : Piece → List Token
own_tokens (Fixed text) = tokens text
own_tokens _ = []

-- the tokens of the builder's own words
abbrev pub own : Pieces → List Token
own printed = flat_map own_tokens printed

-- behind these pieces no bracket of the builder's own is open
abbrev pub is_bare_after : Pieces → Bool
is_bare_after before = is_top_level (own before) (length (own before))

-- A fragment that follows these pieces is balanced; where no bracket of the builder's own is open there, it has no
-- top-level clause keyword.
abbrev pub is_fit_after : Pieces → Piece → Bool
is_fit_after before (text.Raw text) = balanced text && (not (is_bare_after before) || not (has_clause_word text))
is_fit_after before _ = true

-- each fragment of the pieces that follow these is fit in its place
abbrev pub are_fit_after : Pieces → Pieces → Bool
are_fit_after before [] = true
are_fit_after before (piece ∷ pieces) = is_fit_after before piece && are_fit_after (before ++ piece ∷ []) pieces

-- each fragment is balanced, and where no bracket of the builder's own is round it has no top-level clause keyword
abbrev pub are_fit : Pieces → Bool
are_fit pieces = are_fit_after [] pieces

-- a union begins with this piece
abbrev pub begins_union : Piece → Bool
begins_union (Fixed text) = list_any is_union (tokens text)
begins_union _ = false

-- each fragment before the first UNION is fit
abbrev pub has_fit_fragments : Pieces → Bool
has_fit_fragments printed = are_fit (until begins_union printed)

-- the fragments of each condition are fit, by the brackets that the condition itself has
abbrev pub has_fit_conditions : List CallText → Bool
has_fit_conditions calls = list_all (λ c. are_fit (condition_pieces c.1)) (filter_map condition_in calls)

-- each group of conditions, as a fragment, is balanced and has no top-level clause keyword
abbrev pub has_fit_groups : ClauseTexts → Bool
has_fit_groups r = list_all (λ group. are_fit (raw_piece group)) r.groups

-- a fragment is balanced
abbrev pub is_balanced_piece : Piece → Bool
is_balanced_piece (text.Raw text) = balanced text
is_balanced_piece _ = true

-- each fragment is, those behind a UNION too
abbrev pub has_balanced_fragments : Pieces → Bool
has_balanced_fragments printed = list_all is_balanced_piece printed

-- ---- the same, of raw texts

-- a raw text is balanced, and has no top-level clause keyword if it is bare
abbrev pub is_fit : RawText → Bool
is_fit (Bare text) = balanced text && not (has_clause_word text)
is_fit (Enclosed text) = balanced text

-- whether the finish prints fields between brackets
abbrev pub encloses_fields : StartText → FinishText → Bool
encloses_fields (call.InsertInto table) call.Sql = true
encloses_fields _ _ = false

-- each raw text is fit
abbrev pub has_fit_texts : StartText → List CallText → FinishText → Bool
has_fit_texts start calls finish =
    list_all is_fit (start_raw_texts start) && list_all (λ c. list_all is_fit (call_raw_texts (encloses_fields start finish) c)) calls
    && list_all is_fit (finish_raw_texts finish)
