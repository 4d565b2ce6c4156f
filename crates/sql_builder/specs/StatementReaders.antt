-- What any reader makes of a statement, whatever texts its calls quote.
use Rattle.std.specs.Prelude.{◌≡◌, ℕ, Bool, IfOk, IsTrue, List, [], ◌∷◌, Result, Ok, Err, flat_map, length, map, true}
use Rattle.std.specs.List.{list_all}
use Rattle.std.specs.Result.{result_map_both}
use Rattle.sql_parts.specs.Readers.{Part, Constant, Reader, IsInsideAtEach, between_parts, emptied, has_plain_text, marks, outer_states, parts_bytes}
use Rattle.sql_parts.specs.TokenReader.{token_reader}
use Rattle.sql_parts.specs.declared.delimiters.Quotes.TheVariants.{Single}
use Rattle.sql_parts.specs.declared.error.SqlBuilderError.{SqlBuilderError}
use Rattle.sql_builder.specs.Calls.{CallText, FinishText, StartText}
use Rattle.sql_builder.specs.Clauses.{Clauses, map_clauses}
use Rattle.sql_builder.specs.Interference.{DifferInQuotedTexts, blank_call, call_quoted_texts}
use Rattle.sql_builder.specs.Pieces.{Piece, Pieces, Fixed, Quoted, Raw}
use Rattle.sql_builder.specs.Shape.{HasClosedFragments}
use Rattle.sql_builder.specs.Statement.{error_at, layout_at, pieces, text_at, unless_error}
use Rattle.sql_builder.specs.StatementLaws.{made_by}

-- the parts of a piece: a text that a call quotes is between quotes
abbrev pub piece_parts : Piece → List Part
piece_parts (Fixed text) = Constant text ∷ []
piece_parts (Quoted text) = between_parts Single text
piece_parts (Raw text) = Constant text ∷ []

-- the parts of pieces
abbrev pub parts_in : Pieces → List Part
parts_in printed = flat_map piece_parts printed

-- for each byte of the pieces that are printed, whether it is of a text that a call quotes; nothing where the list fails
abbrev pub bytes_unless_error : Result Pieces SqlBuilderError → List Bool
bytes_unless_error (Ok printed) = marks (parts_in printed)
bytes_unless_error (Err error) = []

-- for each byte that is printed, whether it is of a text that a call quotes, between its quotes
abbrev pub quoted_bytes : StartText → List CallText → FinishText → List Bool
quoted_bytes start calls finish = bytes_unless_error (pieces start calls finish)

-- the bytes of each text that is quoted are plain
abbrev pub HasPlainTexts : (ℕ → Bool) → StartText → List CallText → FinishText → Type 0
HasPlainTexts plain start calls finish = IfOk (pieces start calls finish) (λ printed. IsTrue (list_all (has_plain_text plain) (parts_in printed)))

-- where each quoted text begins, its opening quote has opened a string
abbrev pub OpensStrings : Reader → (ℕ → Bool) → ℕ → StartText → List CallText → FinishText → Type 0
OpensStrings next plain state start calls finish = IfOk (pieces start calls finish) (λ printed. IsInsideAtEach next plain state (parts_in printed))

-- what the builder of a start and calls prints, or its error
abbrev pub printed_by : StartText → List CallText → FinishText → Result (List ℕ) SqlBuilderError
printed_by start calls finish = unless_error (error_at finish (made_by start calls)) (text_at finish (made_by start calls))

-- Calls that differ only in texts which they quote, of plain bytes, where a reader opens a string at each of these in what the one
-- prints: so it does in what the other prints, and goes through the same states outside of these texts, or both fail alike.
abbrev pub ReadersIgnoreQuotedTexts : (StartText → List CallText → FinishText → Result (List ℕ) SqlBuilderError) → Type 0
ReadersIgnoreQuotedTexts printed = (next : Reader) (plain : ℕ → Bool) (state : ℕ) (start : StartText) (one other : List CallText) (finish : FinishText)
    → DifferInQuotedTexts one other → HasPlainTexts plain start one finish → HasPlainTexts plain start other finish
    → OpensStrings next plain state start one finish
    → let outside : List CallText → Result (List ℕ) SqlBuilderError =
    λ calls. result_map_both (outer_states next state (quoted_bytes start calls finish)) (λ error. error) (printed start calls finish) in
    OpensStrings next plain state start other finish × (outside one ≡ outside other)

-- there is a truth value for each byte that is printed
abbrev pub QuotedBytesAreBytes : (StartText → List CallText → FinishText → Result (List ℕ) SqlBuilderError) → Type 0
QuotedBytesAreBytes printed = (start : StartText) (calls : List CallText) (finish : FinishText)
    → IfOk (printed start calls finish) (λ text. length (quoted_bytes start calls finish) ≡ length text)

-- each text that a call quotes is of plain bytes
abbrev pub quotes_plain_texts : (ℕ → Bool) → List CallText → Bool
quotes_plain_texts plain calls = list_all (λ c. list_all (list_all plain) (call_quoted_texts c)) calls

-- then so is each that is printed
abbrev pub PlainTextsArePrinted : Type 0
PlainTextsArePrinted = (plain : ℕ → Bool) (start : StartText) (calls : List CallText) (finish : FinishText) → IsTrue (quotes_plain_texts plain calls)
    → HasPlainTexts plain start calls finish

-- Where a reader opens a string at each quoted text of the statement with no texts, it does so with any texts of plain bytes, and goes
-- through the same states outside of them.
abbrev pub NoTextsDecide : (StartText → List CallText → FinishText → Result (List ℕ) SqlBuilderError) → Type 0
NoTextsDecide printed = (next : Reader) (plain : ℕ → Bool) (state : ℕ) (start : StartText) (calls : List CallText) (finish : FinishText)
    → IsTrue (quotes_plain_texts plain calls) → OpensStrings next plain state start (map blank_call calls) finish
    → let outside : List CallText → Result (List ℕ) SqlBuilderError =
    λ calls. result_map_both (outer_states next state (quoted_bytes start calls finish)) (λ error. error) (printed start calls finish) in
    OpensStrings next plain state start calls finish × (outside (map blank_call calls) ≡ outside calls)

-- ---- texts that are quoted inside of fragments

-- a text of the builder's own, as a part
abbrev pub constant_part : List ℕ → List Part
constant_part text = Constant text ∷ []

-- the parts that a finish prints of clauses whose texts are made of parts
abbrev pub parts_at : FinishText → Clauses (List Part) → List Part
parts_at finish r = layout_at constant_part constant_part finish r

-- the text that a finish prints of them
abbrev pub text_of_parts : FinishText → Clauses (List Part) → List ℕ
text_of_parts finish r = text_at finish (map_clauses parts_bytes r)

-- Builders whose texts are made of parts, and differ only in texts of plain bytes, where a reader is inside of a literal at each of these
-- in what the one prints: it is so in what the other prints, and goes through the same states outside of these texts.
abbrev pub ReadersIgnoreQuotedFragments : Type 0
ReadersIgnoreQuotedFragments = (next : Reader) (plain : ℕ → Bool) (state : ℕ) (finish : FinishText) (one other : Clauses (List Part))
    → map_clauses (map emptied) one ≡ map_clauses (map emptied) other
    → IsTrue (list_all (has_plain_text plain) (parts_at finish one)) → IsTrue (list_all (has_plain_text plain) (parts_at finish other))
    → IsInsideAtEach next plain state (parts_at finish one)
    → let outside : Clauses (List Part) → List ℕ = λ r. outer_states next state (marks (parts_at finish r)) (text_of_parts finish r) in
    IsInsideAtEach next plain state (parts_at finish other) × (outside one ≡ outside other)

-- ---- the reader of tokens

-- every byte is plain
abbrev pub every_byte : ℕ → Bool
every_byte byte = true

-- where each fragment is closed, the reader of tokens opens a string at each quoted text
abbrev pub ClosedFragmentsOpenStrings : Type 0
ClosedFragmentsOpenStrings = (start : StartText) (calls : List CallText) (finish : FinishText) → HasClosedFragments start calls finish
    → OpensStrings token_reader every_byte 0 start calls finish
