-- What a statement prints whose texts all fit.
use Rattle.sql_typed.proofs.Imports.{◌≡◌, ◌++◌, ◌∙◌, ◌⊎◌, inl, inr, ap, sym, refl, ℕ, Option, None, Some, List, Ok, IfOk, Result, subst, true, list_all, IfErr, IsTrue, OnOk, Err}
use Rattle.sql_typed.proofs.Imports.{IsMemory, is_fragment, marks, outer_states, outline, closed, tokens, SqlBuilderError, ClauseTexts, CallText, FinishText, Sql, StartText, finish_raw_texts}
use Rattle.sql_typed.proofs.Imports.{has_fit_texts, is_fit, EndsInOneSemicolon, shape, error_at, statement, text_at, unless_error, made_by, balanced_fragments, fit_fragments, fit_texts_balanced, fit_texts_are_closed}
use Rattle.sql_typed.proofs.Imports.{builders_print_statements, statements_are_closed, statements_keep_tokens, statements_nest, statements_read_back, IsFitBy, Made, FailsWith, IsPrinted, PrintsBehind}
use Rattle.std.specs.Result.{result_map_both}
use Rattle.sql_builder.specs.Meaning.{HasTruthOf, condition_groups, is_nested}
use Rattle.sql_builder.specs.Reading.{clause_list, read}
use Rattle.sql_builder.specs.StatementReaders.{parts_at}
use Rattle.sql_builder.proofs.interference.OutlineLemmas.{fragments-apart}
use Rattle.sql_builder.proofs.interference.StatementReaderLemmas.{fragments-alike}
use Rattle.sql_builder.proofs.reading.SubqueryLemmas.{subqueries_nest}
use Rattle.sql_builder.proofs.fragments.InvalidTextLemmas.{ends_in_semicolon}
use Rattle.sql_typed.proofs.FitLemmas.{texts_fit}
use Rattle.sql_typed.proofs.TruthLemmas.{has_its_truth}

-- clauses that are borrowed are those of the statement
pub borrowed : {made given : Made} {r lent : ClauseTexts} → made ≡ given → lent ≡ r → IsFitBy made r → IsFitBy given lent
borrowed {made} {given} {r} {lent} is lends fit = subst (λ (m : Made). IsFitBy m lent) is (subst (IsFitBy made) (sym lends) fit)

-- what holds of a statement holds of its text
if_printed : (P : List ℕ → Type 0) {answer : Result (List ℕ) SqlBuilderError} {text : List ℕ} → answer ≡ Ok text → IfOk answer P → P text
if_printed P is holds = subst (λ answer. IfOk answer P) is holds

-- what is printed where there is no error
printed_text : (finish : FinishText) (r : ClauseTexts) (text : List ℕ) → unless_error (error_at finish r) (text_at finish r) ≡ Ok text
    → text_at finish r ≡ text
printed_text finish r text is = by (error_at finish r) is
  where
    by : (error : Option SqlBuilderError) → unless_error error (text_at finish r) ≡ Ok text → text_at finish r ≡ text
    by None is = cc is
    by (Some error) is = cc is

-- where a call succeeds, what it prints is the statement
pub printed_statement : {X : Type 0} (start : StartText) (calls : List CallText) (finish : FinishText) (r : ClauseTexts) (text : X → List ℕ)
    (result : Result X SqlBuilderError) → r ≡ made_by start calls → IfOk result (λ x. text x ≡ text_at finish r)
    → FailsWith (error_at finish r) result → IfOk result (λ x. statement start calls finish ≡ Ok (text x))
printed_statement start calls finish r text (Err error) made printed failed = tt
printed_statement {X} start calls finish r text (Ok x) made printed failed =
    sym (builders_print_statements start calls finish) ∙ ap (λ (k : ClauseTexts). unless_error (error_at finish k) (text_at finish k)) (sym made)
    ∙ by (error_at finish r) failed ∙ ap Ok (sym printed)
  where
    by : (known : Option SqlBuilderError) → FailsWith {T = X} known (Ok x) → unless_error known (text_at finish r) ≡ Ok (text_at finish r)
    by None failed = refl
    by (Some wanted) failed = cc failed

module _ {made : Made} {r : ClauseTexts} (finish : FinishText) (fit : IsFitBy made r) (name : list_all is_fit (finish_raw_texts finish) ≡ true) where
  texts : has_fit_texts made.start made.calls finish ≡ true
  texts = texts_fit made finish r fit name

  pub is_printed : (text : List ℕ) → statement made.start made.calls finish ≡ Ok text → IsPrinted made finish text
  is_printed text is = record {
    is_statement = is;
    has_tokens = if_printed (λ t. shape made.start made.calls finish ≡ Ok (tokens t)) is (statements_keep_tokens made.start made.calls finish (fit_texts_are_closed made.start made.calls finish texts));
    is_closed = if_printed (λ t. IsTrue (closed t)) is (statements_are_closed made.start made.calls finish (fit_texts_are_closed made.start made.calls finish texts));
    ends_in_one = λ last.
        if_printed (λ t. EndsInOneSemicolon (tokens t)) is
        (ends_in_semicolon made.start made.calls finish last (fit_texts_balanced made.start made.calls finish texts));
    reads_back = λ bare.
        if_printed (λ t. clause_list made.start made.calls finish ≡ Ok (read (tokens t))) is
        (statements_read_back made.start made.calls finish bare (fit_fragments made.start made.calls finish bare texts));
    has_truth = λ shows.
        if_printed (λ t. HasTruthOf (condition_groups made.calls) t) is (has_its_truth made.calls made.start finish shows fit.prints_conditions texts);
    nests = if_printed (λ t. IsTrue (is_nested finish t)) is (statements_nest made.start made.calls finish (balanced_fragments made.start made.calls finish texts));
    nests_as_table = λ table.
        if_printed (λ t. IsTrue (is_fragment t)) is (subqueries_nest made.start made.calls finish table (balanced_fragments made.start made.calls finish texts));
    no_interference = λ other same.
        sym (fragments-apart made.start other.start made.calls other.calls finish same (fit_texts_are_closed made.start made.calls finish texts))
        ∙ ap (result_map_both outline (λ error. error)) is;
    readers_ignore_texts = λ next plain state one other cut same clean other_clean inside.
        let read = fragments-alike next plain state finish one other same clean other_clean inside in (
          read.0,
          ap (outer_states next state (marks (parts_at finish one)))
              (sym (printed_text finish (made_by made.start made.calls) text (builders_print_statements made.start made.calls finish ∙ is))
              ∙ ap (text_at finish) (sym cut))
              ∙ read.1,
        );
  }

  pub all_printed : {X : Type 0} (text : X → List ℕ) (result : Result X SqlBuilderError) → IfOk result (λ x. text x ≡ text_at finish r)
      → FailsWith (error_at finish r) result → IfOk result (λ x. IsPrinted made finish (text x))
  all_printed text (Err error) printed failed = tt
  all_printed text (Ok x) printed failed =
      is_printed (text x) (printed_statement made.start made.calls finish r text (Ok x) fit.is_made printed failed)

-- what is appended where printing succeeds is the statement
pub printed_behind : {T : Type 0} {made : Made} {r : ClauseTexts} (fit : IsFitBy made r) (result : Result T SqlBuilderError) (before after : List ℕ)
    → OnOk result (after ≡ before ++ text_at Sql r) → FailsWith (error_at Sql r) result → OnOk result (PrintsBehind made before after)
printed_behind fit (Err error) before after appended failed = tt
printed_behind {r = r} fit (Ok x) before after appended failed = (text_at Sql r, appended, all_printed Sql fit refl (λ _. text_at Sql r) (Ok x) refl failed)

-- it fails because memory runs out, or with the known error
pub may_fail : {X : Type 0} (known : Option SqlBuilderError) (result : Result X SqlBuilderError) → FailsWith known result
    → IfErr result (λ e. IsMemory e ⊎ (known ≡ Some e))
may_fail known (Ok x) failed = tt
may_fail None (Err error) failed = inl failed
may_fail (Some wanted) (Err error) failed = inr (cc failed)
