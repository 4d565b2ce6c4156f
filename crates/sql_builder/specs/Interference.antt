-- No interference: statements that are the same but for the texts that calls quote.
use Rattle.std.specs.Prelude.{◌≡◌, ℕ, List, [], ◌∷◌, Bool, true, IfOk, IsTrue, Result, Ok, Err, flat_map, map}
use Rattle.std.specs.Result.{result_map_both}
use Rattle.sql_parts.specs.StringTexts.{are_strings, blank, nowhere, outline, tokens_but}
use Rattle.sql_parts.specs.Quoting.{quoted}
use Rattle.sql_parts.specs.Tokens.{Token, closed, tokens}
use Rattle.sql_parts.specs.declared.error.SqlBuilderError.{SqlBuilderError}
use Rattle.sql_builder.specs.Builder.{ClauseTexts}
use Rattle.sql_builder.specs.Calls.{CallText, FinishText, StartText, Cond, SetStr}
use Rattle.sql_builder.specs.Clauses.{map_clauses}
use Rattle.sql_builder.specs.Condition.{ConditionText, Like, InQuoted, blank_condition, condition_bytes, condition_pieces, mask_text}
use Rattle.sql_builder.specs.Layout.{byte_units}
use Rattle.sql_builder.specs.Phrases.{equation}
use Rattle.sql_builder.specs.Reading.{Clause, read}
use Rattle.sql_builder.specs.Shape.{HasClosedFragments, as_fragments, piece_tokens}
use Rattle.sql_builder.specs.RawFragments.{has_closed_fragments}
use Rattle.sql_builder.specs.Statement.{layout_at, pieces, statement, text_at}
use Rattle.sql_builder.specs.Pieces.{Piece, Pieces, Fixed, Quoted, Raw, fixed_piece, raw_piece}

-- ---- the texts that calls quote

-- a call with no text in what it quotes
abbrev pub blank_call : CallText → CallText
blank_call (SetStr field value) = SetStr field []
blank_call (Cond family condition) = Cond family (blank_condition condition)
blank_call call = call

-- calls that are equal when blanked: they differ only in texts that they quote
abbrev pub DifferInQuotedTexts : List CallText → List CallText → Type 0
DifferInQuotedTexts one other = map blank_call one ≡ map blank_call other

-- the texts that a condition quotes, a mask with its percent signs
abbrev pub condition_quoted_texts : ConditionText → List (List ℕ)
condition_quoted_texts (Like negated percent field mask) = mask_text percent mask ∷ []
condition_quoted_texts (InQuoted negated field values) = values
condition_quoted_texts _ = []

-- the texts that a call quotes
abbrev pub call_quoted_texts : CallText → List (List ℕ)
call_quoted_texts (SetStr field value) = value ∷ []
call_quoted_texts (Cond family condition) = condition_quoted_texts condition
call_quoted_texts _ = []

-- for each token of a piece, whether it is a text that a call quoted
abbrev pub piece_places : Piece → List Bool
piece_places (Fixed text) = nowhere (tokens text)
piece_places (Quoted text) = true ∷ []
piece_places (Raw text) = nowhere (tokens text)

-- for each token of pieces
abbrev pub places_in : Pieces → List Bool
places_in printed = flat_map piece_places printed

-- for each token of the pieces that are printed; nothing where the list fails
abbrev pub places_unless_error : Result Pieces SqlBuilderError → List Bool
places_unless_error (Ok printed) = places_in printed
places_unless_error (Err error) = []

-- for each token of what is printed, whether it is a text that a call quoted
abbrev pub quoted_places : StartText → List CallText → FinishText → List Bool
quoted_places start calls finish = places_unless_error (pieces start calls finish)

-- ---- statements

-- what holds of a statement, or its error
abbrev pub answer_of : {X : Type 0} → (List ℕ → X) → StartText → List CallText → FinishText → Result X SqlBuilderError
answer_of answer start calls finish = result_map_both answer (λ error. error) (statement start calls finish)

-- texts that are quoted in place of others are at the same places among the tokens
abbrev pub QuotedTextsKeepTheirPlaces : Type 0
QuotedTextsKeepTheirPlaces = (start : StartText) (one other : List CallText) (finish : FinishText) → DifferInQuotedTexts one other
    → quoted_places start one finish ≡ quoted_places start other finish

-- where each fragment is closed, at each of the places is a string token
abbrev pub QuotedTextsAreStrings : Type 0
QuotedTextsAreStrings = (start : StartText) (calls : List CallText) (finish : FinishText) → HasClosedFragments start calls finish
    → IfOk (statement start calls finish) (λ text. IsTrue (are_strings (quoted_places start calls finish) (tokens text)))

-- where each fragment is closed, texts that are quoted in place of others leave all other tokens of a statement as they are, or
-- its error
abbrev pub QuotedTextsDoNotInterfere : Type 0
QuotedTextsDoNotInterfere = (start : StartText) (one other : List CallText) (finish : FinishText)
    → DifferInQuotedTexts one other → HasClosedFragments start one finish
    → let places = quoted_places start one finish in
    answer_of (tokens_but places) start one finish ≡ answer_of (tokens_but places) start other finish

-- the answer is the same then
abbrev pub IgnoresQuotedTexts : {X : Type 0} → (List ℕ → X) → Type 0
IgnoresQuotedTexts answer = (start : StartText) (one other : List CallText) (finish : FinishText)
    → DifferInQuotedTexts one other → HasClosedFragments start one finish
    → answer_of answer start one finish ≡ answer_of answer start other finish

-- ---- clauses

-- a clause with no text in any string token
abbrev pub blank_clause : Clause → Clause
blank_clause clause = (clause.0, blank clause.1)

-- the clauses that tokens parse back as, with no text in any string token
abbrev pub blank_clauses : List Token → List Clause
blank_clauses ts = map blank_clause (read ts)

-- the same of a text
abbrev pub clauses_but : List ℕ → List Clause
clauses_but text = blank_clauses (tokens text)

-- ---- texts that are quoted or bound inside of fragments

-- the tokens of a piece, with no text in any string token
abbrev pub piece_outline : Piece → List Token
piece_outline piece = blank (piece_tokens piece)

-- the same of each piece that is printed, or the error
abbrev pub outlines : StartText → List CallText → FinishText → Result (List (List Token)) SqlBuilderError
outlines start calls finish = result_map_both (map piece_outline) (λ error. error) (pieces start calls finish)

-- where each fragment is closed, starts and calls whose pieces have the same outlines make statements that have the same outline,
-- or fail alike
abbrev pub FragmentsDoNotInterfere : Type 0
FragmentsDoNotInterfere = (start other_start : StartText) (one other : List CallText) (finish : FinishText)
    → outlines start one finish ≡ outlines other_start other finish → HasClosedFragments start one finish
    → answer_of outline start one finish ≡ answer_of outline other_start other finish

-- where each text of a builder is closed, builders whose texts have the same outlines print texts that have the same outline
abbrev pub OutlinesDecideOutlines : Type 0
OutlinesDecideOutlines = (finish : FinishText) (one other : ClauseTexts) → map_clauses outline one ≡ map_clauses outline other
    → IsTrue (has_closed_fragments (layout_at fixed_piece raw_piece finish (as_fragments one)))
    → outline (text_at finish one) ≡ outline (text_at finish other)

-- where its fragments are closed, a condition has the same outline whatever it quotes
abbrev pub ConditionsKeepTheirOutline : Type 0
ConditionsKeepTheirOutline = (one other : ConditionText) → blank_condition one ≡ blank_condition other
    → IsTrue (has_closed_fragments (condition_pieces one)) → outline (condition_bytes one) ≡ outline (condition_bytes other)

-- where the field is closed, so has `field = 'value'`
abbrev pub EquationsKeepTheirOutline : Type 0
EquationsKeepTheirOutline = (field one other : List ℕ) → IsTrue (closed field)
    → outline (equation byte_units field (quoted one)) ≡ outline (equation byte_units field (quoted other))

-- and so has a text between single quotes
abbrev pub QuotesKeepTheirOutline : Type 0
QuotesKeepTheirOutline = (one other : List ℕ) → outline (quoted one) ≡ outline (quoted other)
