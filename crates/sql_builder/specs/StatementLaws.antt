-- Laws of the statement that a start, calls and a finish make, and of the builder that prints it.
use Rattle.std.specs.Prelude.{◌≡◌, IfOk, IsTrue, List, [], ◌∷◌, ◌++◌, Ok}
use Rattle.sql_parts.specs.Tokens.{closed, tokens}
use Rattle.sql_builder.specs.Builder.{ClauseTexts, with_call}
use Rattle.sql_builder.specs.Calls.{CallText, FinishText, StartText, clauses, kind_of}
use Rattle.sql_builder.specs.Clauses.{map_clauses}
use Rattle.sql_builder.specs.RawFragments.{has_fit_conditions}
use Rattle.sql_builder.specs.Meaning.{HasBalancedFragments, HasFitFragments, HasTruthOf, condition_groups, is_nested, prints_where}
use Rattle.sql_builder.specs.Shape.{HasClosedFragments, shape}
use Rattle.sql_builder.specs.Statement.{error_at, statement, text_at, unless_error}
use Rattle.sql_builder.specs.Pieces.{pieces_text}

-- where each fragment is closed, the statement has the tokens of its pieces
abbrev pub StatementsKeepTokens : Type 0
StatementsKeepTokens = (start : StartText) (calls : List CallText) (finish : FinishText)
    → HasClosedFragments start calls finish → IfOk (statement start calls finish) (λ text. shape start calls finish ≡ Ok (tokens text))

-- and is closed
abbrev pub StatementsAreClosed : Type 0
StatementsAreClosed = (start : StartText) (calls : List CallText) (finish : FinishText)
    → HasClosedFragments start calls finish → IfOk (statement start calls finish) (λ text. IsTrue (closed text))

-- where the statement has a WHERE, if there is a condition, and its fragments and those of each condition are fit, the truth of
-- the WHERE is that of the groups of conditions
abbrev pub StatementsHaveTruth : Type 0
StatementsHaveTruth = (start : StartText) (calls : List CallText) (finish : FinishText)
    → IsTrue (prints_where finish (kind_of start)) → HasFitFragments start calls finish → IsTrue (has_fit_conditions calls)
    → IfOk (statement start calls finish) (λ text. HasTruthOf (condition_groups calls) text)

-- where each fragment is balanced, a query serves as a fragment
abbrev pub StatementsNest : Type 0
StatementsNest = (start : StartText) (calls : List CallText) (finish : FinishText)
    → HasBalancedFragments start calls finish → IfOk (statement start calls finish) (λ text. IsTrue (is_nested finish text))

-- the builder that a start and calls make
abbrev pub made_by : StartText → List CallText → ClauseTexts
made_by start calls = map_clauses pieces_text (clauses start calls)

-- one more call of it makes the builder of the list with that call at its end
abbrev pub BuildersFollowCalls : Type 0
BuildersFollowCalls = (start : StartText) (calls : List CallText) (c : CallText) → with_call c (made_by start calls) ≡ made_by start (calls ++ c ∷ [])

-- what it prints, or its error, is the statement of the start, the calls and the finish
abbrev pub BuildersPrintStatements : Type 0
BuildersPrintStatements = (start : StartText) (calls : List CallText) (finish : FinishText)
    → unless_error (error_at finish (made_by start calls)) (text_at finish (made_by start calls)) ≡ statement start calls finish
