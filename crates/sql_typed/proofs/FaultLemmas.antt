-- What a statement has after one more call, and how a call fails where another does.
use Rattle.sql_typed.proofs.Imports.{MatchResult, IsOk, ◌≡◌, ◌∙◌, ◌++◌, ap, refl, sym, subst, Bool, true, false, List, [], ◌∷◌, Option, None, Some, list_any, Err, IfSome, IsErrAnd, IsNone, Ok, Result, ◌&&◌, ◌||◌, not, FailsOnlyByMemory}
use Rattle.sql_typed.proofs.Imports.{SqlBuilderError, ClauseTexts, with_call, CallText, FinishText, is_join, kind_of, call_fits, error_at, made_by, FailsBy, changes_rows, has_early_constraint, is_constraint, is_filter, is_order, is_returning}
use Rattle.sql_typed.proofs.Imports.{is_union, IsFitBy, Made, adding, marks_of, noted, FailsWith, Builder, clauses-push, all-more}
use Rattle.sql_typed.proofs.TruthLemmas.{Prints, printed_more}
use Rattle.sql_typed.specs.Faults.{IsMemory}
use Rattle.sql_builder.specs.declared.clauses.Kind.{Kind}
use Rattle.sql_typed.specs.declared.error.Error.{Error}
use Rattle.sql_typed.specs.declared.marks.Marks.{Marks}

-- of three tests one passes, in any order
either : (x y z : Bool) → (x || (y || z)) ≡ (y || (x || z))
either true true z = refl
either true false z = refl
either false true z = refl
either false false z = refl

-- one more call
any_more : (test : CallText → Bool) (c : CallText) (calls : List CallText) → (test c || list_any test calls) ≡ list_any test (calls ++ c ∷ [])
any_more test c [] = refl
any_more test c (d ∷ calls) = either (test c) (test d) (list_any test calls) ∙ ap (λ b. test d || b) (any_more test c calls)

filtered_more : (needs_none : Bool) (c : CallText) (calls : List CallText)
    → (is_filter c || (needs_none || list_any is_filter calls)) ≡ (needs_none || list_any is_filter (calls ++ c ∷ []))
filtered_more needs_none c calls =
    either (is_filter c) needs_none (list_any is_filter calls) ∙ ap (λ b. needs_none || b) (any_more is_filter c calls)

early_more : (c : CallText) (calls : List CallText)
    → ((is_constraint c && not (list_any is_join calls)) || has_early_constraint calls) ≡ has_early_constraint (calls ++ c ∷ [])
early_more c [] = alone (is_constraint c) (is_join c)
  where
    alone : (k j : Bool) → ((k && true) || false) ≡ (k || (not j && false))
    alone true j = refl
    alone false true = refl
    alone false false = refl
early_more c (d ∷ calls) = behind (is_constraint c) (is_join d) (list_any is_join calls) (is_constraint d) (has_early_constraint calls)
    ∙ ap (λ b. is_constraint d || (not (is_join d) && b)) (early_more c calls)
  where
    behind : (k j js d e : Bool) → ((k && not (j || js)) || (d || (not j && e))) ≡ (d || (not j && ((k && not js) || e)))
    behind true true js d e = refl
    behind false true js d e = refl
    behind k false js d e = either (k && not js) d e

marks_more : (made : Made) (c : CallText) → noted c (marks_of made) ≡ marks_of (adding c made)
marks_more made c = λ i. record {
  has_filter = filtered_more (made.all_rows || not (changes_rows made.start)) c made.calls i;
  has_join = any_more is_join c made.calls i;
  has_stray_constraint = early_more c made.calls i;
  has_union = any_more is_union c made.calls i;
  has_order = any_more is_order c made.calls i;
  has_returning = any_more is_returning c made.calls i;
}

-- what holds of a statement of a kind holds with one more call
pub made_more : (kind : Kind) (made now : Made) (c : CallText) (old new : ClauseTexts) (marks : Marks) → now ≡ adding c made → new ≡ with_call c old
    → IsFitBy made old × (marks ≡ marks_of made) × (kind_of made.start ≡ kind) → call_fits c ≡ true → Prints kind c
    → IsFitBy now new × (noted c marks ≡ marks_of now) × (kind_of now.start ≡ kind)
made_more kind made now c old new marks is called made_before fits prints = (
  subst (λ (m : Made). IsFitBy m new) (sym is) (record {
    is_made = called ∙ ap (with_call c) made_before.0.is_made ∙ sym (clauses-push made.start made.calls c);
    start_fits = made_before.0.start_fits;
    calls_fit = all-more made.calls c made_before.0.calls_fit fits;
    prints_conditions = printed_more made c (subst (λ k. Prints k c) (sym made_before.2) prints) made_before.0.prints_conditions;
  }),
  ap (noted c) made_before.1 ∙ marks_more made c ∙ ap marks_of (sym is),
  ap (λ (m : Made). kind_of m.start) is ∙ made_before.2,
)

-- ---- how a call fails, where it has no fault

-- by what the builder's call says
pub fails_with : {T : Type 0} (known : Option SqlBuilderError) (result : Result T SqlBuilderError) → IfSome known (λ e. result ≡ Err e)
    → (IsNone known → FailsOnlyByMemory result) → FailsWith known result
fails_with None result failed memory = memory refl
fails_with (Some error) result failed memory = failed

module _ {made : Made} {r : ClauseTexts} (finish : FinishText) (fit : IsFitBy made r) (fault : Option Error) (none : fault ≡ None) where
  abbrev known : Option SqlBuilderError
  known = error_at finish (made_by made.start made.calls)

  -- as `?` passes an error of the builder on
  pub passed_by : {T U : Type 0} (inner : Result T SqlBuilderError) (outer : Result U Error)
      → MatchResult inner (λ x. IsOk outer) (λ is. IsErrAnd outer (λ e. e ≡ Builder is)) → FailsWith (error_at finish r) inner → FailsBy fault known outer
  passed_by {T} {U} inner outer same fails = subst (λ (f : Option Error). FailsBy f known outer) (sym none)
      (by known inner outer same (subst (λ (k : ClauseTexts). FailsWith (error_at finish k) inner) fit.is_made fails))
    where
      by : (known : Option SqlBuilderError) (inner : Result T SqlBuilderError) (outer : Result U Error)
          → MatchResult inner (λ x. IsOk outer) (λ is. IsErrAnd outer (λ e. e ≡ Builder is)) → FailsWith known inner → FailsBy None known outer
      by known (Ok x) (Err e) same fails = cc same
      by known (Err is) (Ok y) same fails = absurd same
      by None (Ok x) (Ok y) same fails = tt
      by (Some wanted) (Ok x) (Ok y) same fails = cc fails
      by None (Err is) (Err e) same fails = subst IsMemory (sym same) fails
      by (Some wanted) (Err is) (Err e) same fails = cc

-- an answer is passed on
pub passed_on : {T U : Type 0} (fault : Option Error) (known : Option SqlBuilderError) (one : Result T Error) (other : Result U Error)
    → MatchResult one (λ x. IsOk other) (λ is. IsErrAnd other (λ e. e ≡ is)) → FailsBy fault known one → FailsBy fault known other
passed_on fault known (Ok x) (Err e) same fails = cc same
passed_on fault known (Err is) (Ok y) same fails = absurd same
passed_on (Some wanted) known (Ok x) (Ok y) same fails = cc fails
passed_on None (Some wanted) (Ok x) (Ok y) same fails = cc fails
passed_on None None (Ok x) (Ok y) same fails = tt
passed_on (Some wanted) known (Err is) (Err e) same fails = cc
passed_on None (Some wanted) (Err is) (Err e) same fails = cc
passed_on None None (Err is) (Err e) same fails = subst IsMemory (sym same) fails
