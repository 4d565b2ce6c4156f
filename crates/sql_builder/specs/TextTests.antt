-- Tests of each raw text of a list of calls, call by call, and what they make of the statement.
use Rattle.std.specs.Prelude.{◌≡◌, ◌&&◌, if◌then◌else◌, Bool, false, not, IfOk, IsTrue, List, ◌++◌, ℕ, None, Some, is_some}
use Rattle.std.specs.List.{list_all, list_any}
use Rattle.sql_parts.specs.Tokens.{closed, has_semicolon, is_empty, tokens}
use Rattle.sql_parts.specs.declared.error.SqlBuilderError.TheVariants.{NoGroupBy}
use Rattle.sql_builder.specs.Calls.{CallText, FinishText, StartText, SelectFrom, Sql, group_fields_in, having_in, call_raw_texts, finish_raw_texts}
use Rattle.sql_builder.specs.Calls.{start_raw_texts}
use Rattle.sql_builder.specs.RawFragments.{encloses_fields, has_fit_texts, has_no_semicolons, is_fit}
use Rattle.sql_builder.specs.RawTexts.{RawText, Bare, Enclosed}
use Rattle.sql_builder.specs.Shape.{EndsInOneSemicolon, HasClosedFragments}
use Rattle.sql_builder.specs.Statement.{pieces, error_at, statement}
use Rattle.sql_builder.specs.StatementLaws.{made_by}

-- the text itself, wherever it is printed
abbrev pub raw_text : RawText → List ℕ
raw_text (Bare text) = text
raw_text (Enclosed text) = text

-- each of these texts passes a test
abbrev pub all_pass : (List ℕ → Bool) → List RawText → Bool
all_pass test raw = list_all (λ h. test (raw_text h)) raw

-- each raw text of a call does
abbrev pub call_passes : (List ℕ → Bool) → CallText → Bool
call_passes test c = all_pass test (call_raw_texts false c)

-- each raw text of a start, calls and a finish does
abbrev pub texts_pass : (List ℕ → Bool) → StartText → List CallText → FinishText → Bool
texts_pass test start calls finish =
    all_pass test (start_raw_texts start) && list_all (call_passes test) calls && all_pass test (finish_raw_texts finish)

-- a text has no `;` among its tokens
abbrev pub is_plain : List ℕ → Bool
is_plain text = not (has_semicolon text)

-- the texts of a list with more calls pass where those of the list and those of each further call do
abbrev pub TextsPassCallByCall : Type 0
TextsPassCallByCall = (test : List ℕ → Bool) (start : StartText) (calls more : List CallText) (finish : FinishText)
    → texts_pass test start (calls ++ more) finish ≡ (texts_pass test start calls finish && list_all (call_passes test) more)

-- and they are fit where those of the list and those of each further call are
abbrev pub TextsAreFitCallByCall : Type 0
TextsAreFitCallByCall = (start : StartText) (calls more : List CallText) (finish : FinishText)
    → has_fit_texts start (calls ++ more) finish
    ≡ (has_fit_texts start calls finish && list_all (λ c. list_all is_fit (call_raw_texts (encloses_fields start finish) c)) more)

-- where each text is closed, so is each fragment that is printed
abbrev pub ClosedTextsMakeClosedFragments : Type 0
ClosedTextsMakeClosedFragments = (start : StartText) (calls : List CallText) (finish : FinishText)
    → IsTrue (texts_pass closed start calls finish) → HasClosedFragments start calls finish

-- and where each is fit
abbrev pub FitTextsMakeClosedFragments : Type 0
FitTextsMakeClosedFragments = (start : StartText) (calls : List CallText) (finish : FinishText)
    → IsTrue (has_fit_texts start calls finish) → HasClosedFragments start calls finish

-- where no text has a `;`, no fragment that is printed has one
abbrev pub PlainTextsMakePlainFragments : Type 0
PlainTextsMakePlainFragments = (start : StartText) (calls : List CallText) (finish : FinishText)
    → IsTrue (texts_pass is_plain start calls finish) → IfOk (pieces start calls finish) (λ printed. IsTrue (has_no_semicolons printed))

-- where each fragment is closed too, the statement that `sql` prints has one `;`, its last token
abbrev pub PlainTextsEndInOneSemicolon : Type 0
PlainTextsEndInOneSemicolon = (start : StartText) (calls : List CallText)
    → HasClosedFragments start calls Sql → IsTrue (texts_pass is_plain start calls Sql)
    → IfOk (statement start calls Sql) (λ text. EndsInOneSemicolon (tokens text))

-- whether a call gives a condition of HAVING
abbrev pub is_having : CallText → Bool
is_having c = is_some (having_in c)

-- whether a call gives a field of GROUP BY
abbrev pub is_group_by : CallText → Bool
is_group_by c = not (is_empty (group_fields_in c))

-- `sql` of a SELECT from a table that has a name fails exactly where there is a `having` and no `group_by`
abbrev pub SelectsNeedGroupBy : Type 0
SelectsNeedGroupBy = (table : List ℕ) (calls : List CallText) → IsTrue (not (is_empty table))
    → error_at Sql (made_by (SelectFrom table) calls)
    ≡ (if list_any is_having calls && not (list_any is_group_by calls) then Some NoGroupBy else None)
