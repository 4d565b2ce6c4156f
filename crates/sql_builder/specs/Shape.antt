-- The tokens of what is printed, piece by piece.
use Prim.Native.Char.{code}
use Rattle.std.specs.Prelude.{◌≡◌, ℕ, List, [], ◌∷◌, ◌++◌, false, IfOk, IsTrue, Result, flat_map}
use Rattle.std.specs.List.{list_any}
use Rattle.std.specs.Result.{result_map_both}
use Rattle.sql_parts.specs.declared.error.SqlBuilderError.{SqlBuilderError}
use Rattle.sql_parts.specs.Tokens.{Token, Str, Symbol, closed, is_semicolon, tokens}
use Rattle.sql_builder.specs.Builder.{ClauseTexts}
use Rattle.sql_builder.specs.Calls.{CallText, FinishText, StartText}
use Rattle.sql_builder.specs.Clauses.{Clauses, map_clauses}
use Rattle.sql_builder.specs.Condition.{ConditionText, condition_pieces}
use Rattle.sql_builder.specs.RawFragments.{has_closed_fragments}
use Rattle.sql_builder.specs.Statement.{pieces}
use Rattle.sql_builder.specs.Pieces.{Piece, Pieces, Fixed, Quoted, Raw, raw_piece}

-- the tokens of a piece: a text between single quotes is one, which parses back as the text
abbrev pub piece_tokens : Piece → List Token
piece_tokens (Fixed text) = tokens text
piece_tokens (Quoted text) = Str text ∷ []
piece_tokens (Raw text) = tokens text

-- the tokens of pieces, one piece after another
abbrev pub pieces_tokens : Pieces → List Token
pieces_tokens printed = flat_map piece_tokens printed

-- the tokens of a condition
abbrev pub cond_tokens : ConditionText → List Token
cond_tokens condition = pieces_tokens (condition_pieces condition)

-- the tokens of the pieces that are printed, or the error
abbrev pub shape : StartText → List CallText → FinishText → Result (List Token) SqlBuilderError
shape start calls finish = result_map_both pieces_tokens (λ error. error) (pieces start calls finish)

-- the last of the tokens is a `;`, and no other is
abbrev pub EndsInOneSemicolon : List Token → Type 0
EndsInOneSemicolon all =
    (front : List Token) × (all ≡ front ++ Symbol (code ";") ∷ []) × (list_any is_semicolon front ≡ false)

-- the clauses of a builder, each text a fragment
abbrev pub as_fragments : ClauseTexts → Clauses Pieces
as_fragments r = map_clauses raw_piece r

-- where each fragment is closed, a text has the tokens of the pieces
abbrev pub HasShape : Pieces → List ℕ → Type 0
HasShape printed text = IsTrue (has_closed_fragments printed) → tokens text ≡ pieces_tokens printed

-- each fragment that is printed is closed
abbrev pub HasClosedFragments : StartText → List CallText → FinishText → Type 0
HasClosedFragments start calls finish = IfOk (pieces start calls finish) (λ printed. IsTrue (has_closed_fragments printed))

-- where each fragment is closed, so is a text
abbrev pub IsClosedAs : Pieces → List ℕ → Type 0
IsClosedAs printed text = IsTrue (has_closed_fragments printed) → IsTrue (closed text)

-- where its fragments are closed, a text has the tokens of these pieces and is closed
abbrev pub KeepsTokens : Pieces → List ℕ → Type 0
KeepsTokens printed text = HasShape printed text × IsClosedAs printed text

-- the new record has this text added, which has the tokens of these pieces and is closed, where their fragments are closed
abbrev pub AddsText : (List ℕ → ClauseTexts) → List ℕ → Pieces → ClauseTexts → Type 0
AddsText adding text printed new = (new ≡ adding text) × HasShape printed text × IsClosedAs printed text
