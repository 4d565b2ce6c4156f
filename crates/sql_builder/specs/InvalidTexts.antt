-- Tests of the raw texts of a list of calls: the first text that doesn't fit in its place, and why.
use Rattle.std.specs.Prelude.{◌≡◌, ◌⊎◌, ℕ, ◌+◌, Bool, is_ok, List, [], ◌∷◌, Option, None, Some, Result, Ok, Err}
use Rattle.std.specs.Result.{result_and}
use Rattle.sql_parts.specs.Fragments.{balanced}
use Rattle.sql_parts.specs.Error.{IsMemory, message_text}
use Rattle.sql_parts.specs.Violations.{violation, violation_text}
use Rattle.sql_parts.specs.declared.error.SqlBuilderError.{SqlBuilderError}
use Rattle.sql_parts.specs.declared.violations.Requirement.{Requirement}
use Rattle.sql_parts.specs.declared.violations.Requirement.TheVariants.{Balanced, Fragment}
use Rattle.sql_parts.specs.declared.violations.Violation.{Violation}
use Rattle.sql_builder.specs.Calls.{CallText, FinishText, StartText, call_raw_texts, finish_raw_texts, start_raw_texts}
use Rattle.sql_builder.specs.Interference.{DifferInQuotedTexts}
use Rattle.sql_builder.specs.RawFragments.{encloses_fields, has_fit_texts}
use Rattle.sql_builder.specs.RawTexts.{RawText, Bare, Enclosed}
use Rattle.sql_builder.specs.TextTests.{texts_pass}
use Rattle.sql_builder.specs.declared.checks.CheckedError.{CheckedError}
use Rattle.sql_builder.specs.declared.checks.CheckedError.TheVariants as error
use Rattle.sql_builder.specs.declared.checks.Place.{Place}
use Rattle.sql_builder.specs.declared.checks.Place.TheVariants as place
use Rattle.sql_builder.specs.declared.checks.InvalidText.{InvalidText}

-- passed where there is no reason against a text, which has this index among those of its place
abbrev pub unless_violation : Place → ℕ → Option Violation → Result (Unit {0}) InvalidText
unless_violation place index None = Ok tt
unless_violation place index (Some violation) = Err (record { place = place; text = index; violation = violation })

-- the test of a raw text, where this is asked of a bare one; of any other it is enough that it is balanced
abbrev pub raw_test : Requirement → Place → ℕ → RawText → Result (Unit {0}) InvalidText
raw_test bare place index (Bare text) = unless_violation place index (violation bare text)
raw_test bare place index (Enclosed text) = unless_violation place index (violation Balanced text)

-- the tests of texts one after another, of which the first has this index
abbrev pub texts_test : Requirement → Place → ℕ → List RawText → Result (Unit {0}) InvalidText
texts_test bare place index [] = Ok tt
texts_test bare place index (raw ∷ more) = result_and (raw_test bare place index raw) (texts_test bare place (index + 1) more)

-- the tests of the texts of calls, of which the first has this index
abbrev pub calls_test : Requirement → ℕ → Bool → List CallText → Result (Unit {0}) InvalidText
calls_test bare index enclosed [] = Ok tt
calls_test bare index enclosed (c ∷ calls) =
    result_and (texts_test bare (place.Call index) 0 (call_raw_texts enclosed c)) (calls_test bare (index + 1) enclosed calls)

-- the tests of the texts of a start, of calls and of a finish
abbrev pub list_test : Requirement → StartText → List CallText → FinishText → Result (Unit {0}) InvalidText
list_test bare start calls finish =
    result_and (texts_test bare place.Start 0 (start_raw_texts start))
    (result_and (calls_test bare 0 (encloses_fields start finish) calls) (texts_test bare place.Finish 0 (finish_raw_texts finish)))

-- the tests pass exactly where each text is fit in its place
abbrev pub TestsPassFitTexts : Type 0
TestsPassFitTexts = (start : StartText) (calls : List CallText) (finish : FinishText)
    → is_ok (list_test Fragment start calls finish) ≡ has_fit_texts start calls finish

-- or, where only that is asked of bare ones, where each is balanced
abbrev pub TestsPassBalancedTexts : Type 0
TestsPassBalancedTexts = (start : StartText) (calls : List CallText) (finish : FinishText)
    → is_ok (list_test Balanced start calls finish) ≡ texts_pass balanced start calls finish

-- lists that differ only in texts that calls quote have the same first invalid text, or none
abbrev pub QuotedTextsDecideNoTest : Type 0
QuotedTextsDecideNoTest = (bare : Requirement) (start : StartText) (one other : List CallText) (finish : FinishText)
    → DifferInQuotedTexts one other → list_test bare start one finish ≡ list_test bare start other finish

-- The error is that of the tests, if they fail. Else it is that memory ran out, or the statement's own.
abbrev pub IsCheckedError : Result (Unit {0}) InvalidText → Result (List ℕ) SqlBuilderError → CheckedError → Type 0
IsCheckedError tested made (error.InvalidText invalid) = tested ≡ Err invalid
IsCheckedError tested made (error.Failed failure) = (tested ≡ Ok tt) × (IsMemory failure ⊎ (made ≡ Err failure))

-- the message of an error
abbrev pub checked_message : CheckedError → List ℕ
checked_message (error.InvalidText invalid) = violation_text invalid.violation
checked_message (error.Failed failure) = message_text failure
