-- The raw texts of a list of calls are fit, or balanced, exactly where its tests pass; and what a list whose texts are balanced prints.
use Rattle.sql_builder.proofs.Imports.{◌≡◌, refl, sym, ◌∙◌, ap, subst, ℕ, ◌+◌, Bool, true, false, map, ◌&&◌, List, [], ◌∷◌, Option, None, Some, IfOk, Result}
use Rattle.sql_builder.proofs.Imports.{Ok, Err, IsTrue, is_none, is_ok, list_all, result_and, IfOk-weaker, balanced, tokens, balanced_whole, met, Raw}
use Rattle.std.proofs.Math.Bool.{and_assoc}
use Rattle.sql_parts.specs.Violations.{meets, violation}
use Rattle.sql_parts.specs.declared.violations.Requirement.{Requirement}
use Rattle.sql_parts.specs.declared.violations.Requirement.TheVariants as requirement
use Rattle.sql_parts.specs.declared.violations.Violation.{Violation}
use Rattle.sql_builder.specs.Calls as call
use Rattle.sql_builder.specs.{CallText, FinishText, StartText, Sql, call_raw_texts, clauses, finish_raw_texts, start_raw_texts, ConditionText, Compare, Like}
use Rattle.sql_builder.specs.{IsNull, IsNotNull, InList, InQuoted, InQuery, Between, blank_condition, condition_raw_texts, blank_call, HasBalancedFragments}
use Rattle.sql_builder.specs.{encloses_fields, has_balanced_fragments, has_closed_fragments, is_fit, RawText, Bare, Enclosed, EndsInOneSemicolon}
use Rattle.sql_builder.specs.{HasClosedFragments, pieces, statement, all_pass, is_plain, raw_text, texts_pass, QuotedTextsDecideNoTest, TestsPassBalancedTexts}
use Rattle.sql_builder.specs.{TestsPassFitTexts, calls_test, list_test, raw_test, texts_test, unless_violation}
use Rattle.sql_builder.specs.declared.checks.Place.{Place}
use Rattle.sql_builder.specs.declared.checks.Place.TheVariants as place
use Rattle.sql_builder.specs.declared.checks.InvalidText.{InvalidText}
use Rattle.sql_builder.proofs.fragments.FitLemmas.{unless}
use Rattle.sql_builder.proofs.fragments.PassLemmas.{printed-passes, calls-enclosed, weaker-texts}
use Rattle.sql_builder.proofs.fragments.PropertyLemmas.{calls-whatever, whatever}
use Rattle.sql_builder.proofs.fragments.TextTestLemmas.{plain_texts_end}
use Rattle.sql_builder.proofs.lists.{each-same}
use Rattle.sql_builder.proofs.reading.{fragments_closed, layout}

-- with nothing behind it
pub alone : (tested : Result (Unit {0}) InvalidText) → tested ≡ result_and tested (Ok tt)
alone (Ok done) = refl
alone (Err invalid) = refl

-- ---- where tests pass

both_pass : (one other : Result (Unit {0}) InvalidText) → is_ok (result_and one other) ≡ (is_ok one && is_ok other)
both_pass (Ok done) other = refl
both_pass (Err invalid) other = refl

passes : (at : Place) (index : ℕ) (found : Option Violation) → is_ok (unless_violation at index found) ≡ is_none found
passes at index None = refl
passes at index (Some violation) = refl

-- a raw text meets what is asked of it in its place
abbrev pub fits : Requirement → RawText → Bool
fits bare (Bare text) = meets bare text
fits bare (Enclosed text) = balanced text

raw_passes : (bare : Requirement) (at : Place) (index : ℕ) (raw : RawText) → is_ok (raw_test bare at index raw) ≡ fits bare raw
raw_passes bare at index (Bare text) = passes at index (violation bare text) ∙ met bare text
raw_passes bare at index (Enclosed text) = passes at index (violation requirement.Balanced text) ∙ met requirement.Balanced text

texts_fit : (bare : Requirement) (at : Place) (index : ℕ) (raws : List RawText) → is_ok (texts_test bare at index raws) ≡ list_all (fits bare) raws
texts_fit bare at index [] = refl
texts_fit bare at index (raw ∷ more) =
    both_pass (raw_test bare at index raw) (texts_test bare at (index + 1) more)
    ∙ (λ i. raw_passes bare at index raw i && texts_fit bare at (index + 1) more i)

calls_fit : (bare : Requirement) (index : ℕ) (enclosed : Bool) (calls : List CallText)
    → is_ok (calls_test bare index enclosed calls) ≡ list_all (λ c. list_all (fits bare) (call_raw_texts enclosed c)) calls
calls_fit bare index enclosed [] = refl
calls_fit bare index enclosed (c ∷ calls) =
    both_pass (texts_test bare (place.Call index) 0 (call_raw_texts enclosed c)) (calls_test bare (index + 1) enclosed calls)
    ∙ (λ i. texts_fit bare (place.Call index) 0 (call_raw_texts enclosed c) i && calls_fit bare (index + 1) enclosed calls i)

list_passes : (bare : Requirement) (start : StartText) (calls : List CallText) (finish : FinishText)
    → is_ok (list_test bare start calls finish)
    ≡ (list_all (fits bare) (start_raw_texts start) && list_all (λ c. list_all (fits bare) (call_raw_texts (encloses_fields start finish) c)) calls
    && list_all (fits bare) (finish_raw_texts finish))
list_passes bare start calls finish =
    let first = texts_test bare place.Start 0 (start_raw_texts start) in
    let middle = calls_test bare 0 (encloses_fields start finish) calls in
    let last = texts_test bare place.Finish 0 (finish_raw_texts finish) in
    both_pass first (result_and middle last)
    ∙ ap (λ b. is_ok first && b) (both_pass middle last)
    ∙ (λ i. texts_fit bare place.Start 0 (start_raw_texts start) i
    && (calls_fit bare 0 (encloses_fields start finish) calls i && texts_fit bare place.Finish 0 (finish_raw_texts finish) i))
    ∙ sym (and_assoc (list_all (fits bare) (start_raw_texts start)) _ _)

fits_fit : (raw : RawText) → fits requirement.Fragment raw ≡ is_fit raw
fits_fit (Bare text) = refl
fits_fit (Enclosed text) = refl

fits_balanced : (raw : RawText) → fits requirement.Balanced raw ≡ balanced (raw_text raw)
fits_balanced (Bare text) = refl
fits_balanced (Enclosed text) = refl

pub list_is_fit : TestsPassFitTexts
list_is_fit start calls finish =
    let all = each-same (fits requirement.Fragment) is_fit fits_fit in
    let enclosed = encloses_fields start finish in
    list_passes requirement.Fragment start calls finish
    ∙ (λ i. all (start_raw_texts start) i
    && each-same (λ c. list_all (fits requirement.Fragment) (call_raw_texts enclosed c)) (λ c. list_all is_fit (call_raw_texts enclosed c))
    (λ c. all (call_raw_texts enclosed c)) calls i
    && all (finish_raw_texts finish) i)

pub list_is_balanced : TestsPassBalancedTexts
list_is_balanced start calls finish =
    let all = each-same (fits requirement.Balanced) (λ raw. balanced (raw_text raw)) fits_balanced in
    let enclosed = encloses_fields start finish in
    list_passes requirement.Balanced start calls finish
    ∙ (λ i. all (start_raw_texts start) i
    && (each-same (λ c. list_all (fits requirement.Balanced) (call_raw_texts enclosed c)) (λ c. all_pass balanced (call_raw_texts enclosed c))
    (λ c. all (call_raw_texts enclosed c)) calls ∙ calls-enclosed balanced enclosed calls) i
    && all (finish_raw_texts finish) i)

-- what a call quotes is no raw text
condition_blank : (condition : ConditionText) → condition_raw_texts condition ≡ condition_raw_texts (blank_condition condition)
condition_blank (Raw condition) = refl
condition_blank (Compare relation field value) = refl
condition_blank (Like negated percent field mask) = refl
condition_blank (IsNull field) = refl
condition_blank (IsNotNull field) = refl
condition_blank (InList negated field values) = refl
condition_blank (InQuoted negated field values) = refl
condition_blank (InQuery negated field query) = refl
condition_blank (Between negated field least greatest) = refl

call_blank : (enclosed : Bool) (c : CallText) → call_raw_texts enclosed c ≡ call_raw_texts enclosed (blank_call c)
call_blank enclosed (call.Cond family condition) = condition_blank condition
call_blank enclosed (call.SetStr field value) = refl
call_blank enclosed c = refl

calls_blank : (bare : Requirement) (index : ℕ) (enclosed : Bool) (calls : List CallText)
    → calls_test bare index enclosed calls ≡ calls_test bare index enclosed (map blank_call calls)
calls_blank bare index enclosed [] = refl
calls_blank bare index enclosed (c ∷ calls) =
    λ i. result_and (texts_test bare (place.Call index) 0 (call_blank enclosed c i)) (calls_blank bare (index + 1) enclosed calls i)

pub quoted_texts_decide_none : QuotedTextsDecideNoTest
quoted_texts_decide_none bare start one other finish same =
    let enclosed = encloses_fields start finish in
    let calls : calls_test bare 0 enclosed one ≡ calls_test bare 0 enclosed other =
    calls_blank bare 0 enclosed one ∙ ap (calls_test bare 0 enclosed) same ∙ sym (calls_blank bare 0 enclosed other) in
    λ i. result_and (texts_test bare place.Start 0 (start_raw_texts start))
    (result_and (calls i) (texts_test bare place.Finish 0 (finish_raw_texts finish)))

-- ---- what a list of calls prints whose raw texts are balanced

raw_plain : (raw : RawText) → balanced (raw_text raw) ≡ true → is_plain (raw_text raw) ≡ true
raw_plain raw is = (balanced_whole (raw_text raw) is).1

module _ (start : StartText) (calls : List CallText) (finish : FinishText) (all : texts_pass balanced start calls finish ≡ true) where
  pub balanced_fragments : HasBalancedFragments start calls finish
  balanced_fragments =
      unless _ (layout finish (clauses start calls)) has_balanced_fragments
      (printed-passes balanced whatever start calls finish (calls-whatever calls) all)

  pub closed_fragments : HasClosedFragments start calls finish
  closed_fragments =
      IfOk-weaker (pieces start calls finish) (λ printed. IsTrue (has_balanced_fragments printed)) (λ printed. IsTrue (has_closed_fragments printed))
      fragments_closed balanced_fragments

  plain_texts : texts_pass is_plain start calls finish ≡ true
  plain_texts = weaker-texts (λ raw. balanced (raw_text raw)) (λ raw. is_plain (raw_text raw)) raw_plain false start calls finish all

-- what `sql` prints of them ends in its only `;`
pub ends_in_semicolon : (start : StartText) (calls : List CallText) (finish : FinishText) → finish ≡ Sql → texts_pass balanced start calls finish ≡ true
    → IfOk (statement start calls finish) (λ text. EndsInOneSemicolon (tokens text))
ends_in_semicolon start calls finish is all =
    let here : texts_pass balanced start calls Sql ≡ true = ap (texts_pass balanced start calls) (sym is) ∙ all in
    subst (λ (last : FinishText). IfOk (statement start calls last) (λ text. EndsInOneSemicolon (tokens text))) (sym is)
    (plain_texts_end start calls (closed_fragments start calls Sql here) (plain_texts start calls Sql here))
