-- Texts of a statement that fit.
use Rattle.sql_typed.proofs.Imports.{◌≡◌, List, ℕ, is_fragment, start_on, refl, true, list_all, and_from, ClauseTexts, FinishText, finish_raw_texts, nullary_call, call_fits, encloses_fields, has_fit_texts, is_fit, calls-fit}
use Rattle.sql_typed.proofs.Imports.{IsFitBy, Made}
use Rattle.sql_builder.specs.Calls.{start_raw_texts}
use Rattle.sql_builder.specs.declared.calls.TableStart.{TableStart}
use Rattle.sql_builder.specs.declared.calls.TableStart.TheVariants as on
use Rattle.sql_builder.specs.declared.steps.NullaryClause.{NullaryClause}
use Rattle.sql_builder.specs.declared.steps.NullaryClause.TheVariants.{Natural, Left, LeftOuter, Right, RightOuter, Inner, Cross, Distinct, ReturningId}

-- a call without texts
pub nullary_fits : (clause : NullaryClause) → call_fits (nullary_call clause) ≡ true
nullary_fits Natural = refl
nullary_fits Left = refl
nullary_fits LeftOuter = refl
nullary_fits Right = refl
nullary_fits RightOuter = refl
nullary_fits Inner = refl
nullary_fits Cross = refl
nullary_fits Distinct = refl
nullary_fits ReturningId = refl

-- a start on a table that fits
pub start_fits : (start : TableStart) (table : List ℕ) → is_fragment table ≡ true → list_all is_fit (start_raw_texts (start_on start table)) ≡ true
start_fits on.SelectFrom table fits = and_from _ _ fits refl
start_fits on.InsertInto table fits = and_from _ _ fits refl
start_fits on.UpdateTable table fits = and_from _ _ fits refl
start_fits on.DeleteFrom table fits = and_from _ _ fits refl

pub texts_fit : (made : Made) (finish : FinishText) (r : ClauseTexts) → IsFitBy made r → list_all is_fit (finish_raw_texts finish) ≡ true
    → has_fit_texts made.start made.calls finish ≡ true
texts_fit made finish r fit name =
    and_from _ _ (and_from _ _ fit.start_fits (calls-fit (encloses_fields made.start finish) made.calls fit.calls_fit)) name
