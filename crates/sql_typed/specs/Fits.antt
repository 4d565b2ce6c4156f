-- Statements whose texts all fit, by their types.
use Rattle.std.specs.Prelude.{◌≡◌, ◌⊎◌, Bool, true, false, IsTrue, List, [], ◌∷◌, ◌++◌}
use Rattle.std.specs.List.{list_all}
use Rattle.sql_builder.specs.Builder.{ClauseTexts}
use Rattle.sql_builder.specs.Calls.{CallText, SelectFrom, Sql, StartText, kind_of, start_raw_texts}
use Rattle.sql_builder.specs.FitCalls.{call_fits}
use Rattle.sql_builder.specs.Meaning.{condition_groups, prints_where}
use Rattle.sql_builder.specs.RawFragments.{is_fit}
use Rattle.sql_builder.specs.StatementLaws.{made_by}

-- What has made a statement: its start, the calls that were made after it, and whether one said that all rows are meant.
pub record Made : Type 0 where
  pub start : StartText
  pub calls : List CallText
  pub all_rows : Bool

-- a start, and no call
abbrev pub beginning : StartText → Made
beginning start = record { start = start; calls = []; all_rows = false }

-- one more call
abbrev pub adding : CallText → Made → Made
adding call made = record { start = made.start; calls = made.calls ++ call ∷ []; all_rows = made.all_rows }

-- with every row meant
abbrev pub meaning_all_rows : Made → Made
meaning_all_rows made = record { start = made.start; calls = made.calls; all_rows = true }

-- what a list has that proofs keep of a statement, as its one item
abbrev pub made_in : List Made → Made
made_in [] = beginning (SelectFrom [])
made_in (made ∷ more) = made

-- each condition is printed: the statement has a WHERE, or no condition
abbrev pub PrintsConditions : Made → Type 0
PrintsConditions made = IsTrue (prints_where Sql (kind_of made.start)) ⊎ (condition_groups made.calls ≡ [])

-- these clauses are what a start and calls make, the texts of all fit, and each condition is printed
pub record IsFitBy (made : Made) (r : ClauseTexts) : Type 0 where
  pub is_made : r ≡ made_by made.start made.calls
  pub start_fits : IsTrue (list_all is_fit (start_raw_texts made.start))
  pub calls_fit : IsTrue (list_all call_fits made.calls)
  pub prints_conditions : PrintsConditions made
