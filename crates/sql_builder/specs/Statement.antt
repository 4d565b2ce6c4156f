-- The statement of a start, a list of calls and a finish, or its error.
use Rattle.std.specs.Prelude.{ℕ, List, Option, None, Some, Result, Ok, Err}
use Rattle.sql_parts.specs.declared.error.SqlBuilderError.{SqlBuilderError}
use Rattle.sql_builder.specs.Calls.{StartText, CallText, FinishText, Sql, Query, QueryValues, Subquery, SubqueryAs, clauses}
use Rattle.sql_builder.specs.Clauses.{Clauses, map_clauses}
use Rattle.sql_builder.specs.Layout.{byte_units, query, query_error, query_values, sql_error, sql, subquery, subquery_as}
use Rattle.sql_builder.specs.Pieces.{Pieces, fixed_piece, pieces_text, raw_piece}

-- the error where there is one, else the value
abbrev pub unless_error : {X : Type 0} → Option SqlBuilderError → X → Result X SqlBuilderError
unless_error None x = Ok x
unless_error (Some error) x = Err error

-- the error of a finish; `query_values` prints no HAVING, and has none
abbrev pub error_at : FinishText → Clauses (List ℕ) → Option SqlBuilderError
error_at Sql r = sql_error r
error_at Query r = query_error r
error_at QueryValues r = None
error_at Subquery r = query_error r
error_at (SubqueryAs name) r = query_error r

-- what a finish lays out: `word` gives the units of the builder's own texts, `raw` of raw fragments
abbrev pub layout_at : {A : Type 0} → (List ℕ → List A) → (List ℕ → List A) → FinishText → Clauses (List A)
    → List A
layout_at word raw Sql r = sql word r
layout_at word raw Query r = query word r
layout_at word raw QueryValues r = query_values word r
layout_at word raw Subquery r = subquery word r
layout_at word raw (SubqueryAs name) r = subquery_as word (raw name) r

-- the pieces that a finish prints of the clauses, or its error
abbrev pub pieces_at : FinishText → Clauses Pieces → Result Pieces SqlBuilderError
pieces_at finish r =
    unless_error (error_at finish (map_clauses pieces_text r)) (layout_at fixed_piece raw_piece finish r)

-- the text that a finish prints of the clauses' texts
abbrev pub text_at : FinishText → Clauses (List ℕ) → List ℕ
text_at finish r = layout_at byte_units byte_units finish r

-- the pieces that are printed, or the error
abbrev pub pieces : StartText → List CallText → FinishText → Result Pieces SqlBuilderError
pieces start calls finish = pieces_at finish (clauses start calls)

-- the text of the pieces, where there is no error
abbrev pub text_unless_error : Result Pieces SqlBuilderError → Result (List ℕ) SqlBuilderError
text_unless_error (Ok printed) = Ok (pieces_text printed)
text_unless_error (Err error) = Err error

-- the text that the whole list makes, or its error
abbrev pub statement : StartText → List CallText → FinishText → Result (List ℕ) SqlBuilderError
statement start calls finish = text_unless_error (pieces start calls finish)
