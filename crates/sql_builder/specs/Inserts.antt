-- The clauses of an INSERT of a query, as its tokens parse back.
use Rattle.std.specs.Prelude.{◌≡◌, ℕ, Bool, true, not, ◌&&◌, ◌||◌, IfOk, IsTrue, List, [], ◌∷◌, ◌++◌, Option, None, Some, codes, flat_map, if◌then◌else◌}
use Rattle.std.specs.List.{list_all}
use Rattle.sql_parts.specs.Fragments.{balanced, has_top_level, is_clause_word, placed}
use Rattle.sql_parts.specs.Tokens.{Token, Word, tokens}
use Rattle.sql_builder.specs.Builder.{ClauseTexts}
use Rattle.sql_builder.specs.Calls.{CallText, StartText, Query, Sql, clauses, is_select, query_of, unions_in, call_raw_texts}
use Rattle.sql_builder.specs.Calls as call
use Rattle.sql_builder.specs.Clauses.{Clauses}
use Rattle.sql_builder.specs.RawFragments.{are_fit, has_fit_fragments, is_fit}
use Rattle.sql_builder.specs.RawTexts.{Bare}
use Rattle.sql_builder.specs.Layout.{byte_units, insert_target, query, sql}
use Rattle.sql_builder.specs.Meaning.{HasFitFragments}
use Rattle.sql_builder.specs.TokenParts.{parts_at}
use Rattle.sql_builder.specs.Reading.{Clause, is_union, read}
use Rattle.sql_builder.specs.Shape.{as_fragments, pieces_tokens}
use Rattle.sql_builder.specs.Statement.{statement}
use Rattle.sql_builder.specs.Pieces.{Pieces, fixed_piece, raw_piece}
use Rattle.sql_builder.specs.declared.clauses.Kind.TheVariants.{InsertInto}

-- the tokens before the first top-level clause keyword: none of a query that begins with SELECT
abbrev pub lead_of : List Token → List Token
lead_of ts = (parts_at is_clause_word (placed ts)).lead

-- RETURNING with what is returned, where something is
abbrev pub returning_clauses : Option Pieces → List Clause
returning_clauses None = []
returning_clauses (Some returned) = (Word (codes "RETURNING"), pieces_tokens returned) ∷ []

-- those that are read behind a query: none behind a top-level UNION, where a reader ends
abbrev pub returning_after : List Token → Option Pieces → List Clause
returning_after query returned = if has_top_level is_union query then [] else returning_clauses returned

-- the clauses of an INSERT of a query: its own, with the table and the fields, then those of the query, and RETURNING
abbrev pub insert_clauses : Clauses Pieces → List Token → List Clause
insert_clauses r query =
    (Word (codes "INSERT"), Word (codes "INTO") ∷ (pieces_tokens (insert_target fixed_piece r) ++ lead_of query))
    ∷ (read query ++ returning_after query r.returning)

-- what is returned is fit, where something is
abbrev pub is_fit_returning : Option Pieces → Bool
is_fit_returning None = true
is_fit_returning (Some returned) = are_fit returned

-- the table and the fields, which are between brackets, are fit, and what is returned is
abbrev pub has_fit_target : Clauses Pieces → Bool
has_fit_target r = are_fit (insert_target fixed_piece r) && is_fit_returning r.returning

-- what `sql` prints of an INSERT of a balanced query parses back as its clauses with those of the query
abbrev pub InsertsReadBack : Type 0
InsertsReadBack = (table : List ℕ) (calls : List CallText) (query : List ℕ)
    → query_of calls ≡ Some (raw_piece query) → IsTrue (balanced query) → IsTrue (has_fit_target (clauses (call.InsertInto table) calls))
    → IfOk (statement (call.InsertInto table) calls Sql) (λ text. read (tokens text) ≡ insert_clauses (clauses (call.InsertInto table) calls) (tokens query))

-- the same of a builder
abbrev pub BuildersOfInsertsReadBack : Type 0
BuildersOfInsertsReadBack = (r : ClauseTexts) (query : List ℕ)
    → r.kind ≡ InsertInto → r.query ≡ Some query → IsTrue (balanced query) → IsTrue (has_fit_target (as_fragments r))
    → read (tokens (sql byte_units r)) ≡ insert_clauses (as_fragments r) (tokens query)

-- a query that is balanced, and has no top-level UNION: RETURNING is read behind it
abbrev pub is_one_query : List ℕ → Bool
is_one_query query = balanced query && not (has_top_level is_union (tokens query))

-- what `query` prints without a union is one query, where its fragments are fit
abbrev pub QueriesAreOne : Type 0
QueriesAreOne = (start : StartText) (calls : List CallText)
    → flat_map unions_in calls ≡ [] → HasFitFragments start calls Query → IfOk (statement start calls Query) (λ text. IsTrue (is_one_query text))

-- the same of a builder
abbrev pub BuildersOfQueriesAreOne : Type 0
BuildersOfQueriesAreOne = (r : ClauseTexts)
    → r.unions ≡ [] → IsTrue (has_fit_fragments (query fixed_piece (as_fragments r))) → IsTrue (is_one_query (query byte_units r))

-- each raw text is fit, but for queries
abbrev pub has_fit_insert_texts : List ℕ → List CallText → Bool
has_fit_insert_texts table calls = is_fit (Bare table) && list_all (λ c. is_select c || list_all is_fit (call_raw_texts true c)) calls

-- where these texts are fit, so are the fragments beside the query
abbrev pub FitTextsMakeFitTargets : Type 0
FitTextsMakeFitTargets = (table : List ℕ) (calls : List CallText)
    → IsTrue (has_fit_insert_texts table calls) → IsTrue (has_fit_target (clauses (call.InsertInto table) calls))
