-- What is proved of the statement of a start, calls and a finish.
use Rattle.sql_builder.proofs.Imports.{◌≡◌, refl, sym, ◌∙◌, ap, List, ℕ, Option, None, Some, Result, Ok, IfOk, String, string_bytes, map, IsTrue}
use Rattle.sql_builder.proofs.Imports.{result_map_both, IfOk-at_ok, IfOk-weaker, closed, tokens, SqlBuilderError, Clauses, Pieces}
use Rattle.sql_builder.specs.{CallText, FinishText, StartText, clauses, has_balanced_fragments, has_fit_fragments, has_closed_fragments, StatementsReadBack}
use Rattle.sql_builder.specs.{HasTruthOf, condition_groups, is_nested, piece_clauses, read, pieces_tokens, pieces, error_at, statement, text_at}
use Rattle.sql_builder.specs.{text_unless_error, unless_error, BuildersFollowCalls, BuildersPrintStatements, StatementsAreClosed, StatementsHaveTruth}
use Rattle.sql_builder.specs.{StatementsKeepTokens, StatementsNest, made_by, pieces_text, truth}
use Rattle.sql_builder.proofs.fragments.NeutralLemmas.{clauses-neutral, clauses-inside}
use Rattle.sql_builder.proofs.pieces.{printed-shaped, shape_closed}
use Rattle.sql_builder.proofs.reading.NestingLemmas.{nests}
use Rattle.sql_builder.proofs.reading.ReadBackLemmas.{layout, layout-reads, text-wheres}
use Rattle.sql_builder.proofs.statements.RunLemmas.{clauses-push, text_of_layout}
use Rattle.sql_builder.proofs.truth.ConditionGroupLemmas.{calls-true}

module _ (start : StartText) (calls : List CallText) (finish : FinishText) where
  abbrev its_clauses : Clauses Pieces
  its_clauses = clauses start calls

  -- what holds of the pieces that are laid out holds of the statement, where there is no error
  pub of_pieces : (P : Pieces → Type 0) (Q : Result Pieces SqlBuilderError → List ℕ → Type 0)
      → (P (layout finish its_clauses) → Q (Ok (layout finish its_clauses)) (pieces_text (layout finish its_clauses)))
      → IfOk (pieces start calls finish) P → IfOk (statement start calls finish) (Q (pieces start calls finish))
  of_pieces P Q holds = by (error_at finish (made_by start calls))
    where
      by : (error : Option SqlBuilderError) → IfOk (unless_error error (layout finish its_clauses)) P
          → IfOk (text_unless_error (unless_error error (layout finish its_clauses))) (Q (unless_error error (layout finish its_clauses)))
      by None all = holds all
      by (Some error) all = tt

pub statements_keep_tokens : StatementsKeepTokens
statements_keep_tokens start calls finish =
    of_pieces start calls finish (λ printed. IsTrue (has_closed_fragments printed))
    (λ printed text. result_map_both pieces_tokens (λ e. e) printed ≡ Ok (tokens text))
    (λ all. ap Ok (sym ((printed-shaped start calls finish).shape_is all)))

pub statements_are_closed : StatementsAreClosed
statements_are_closed start calls finish =
    of_pieces start calls finish (λ printed. IsTrue (has_closed_fragments printed)) (λ printed text. IsTrue (closed text))
    (shape_closed (layout finish (clauses start calls)) (printed-shaped start calls finish))

pub statements_read_back : StatementsReadBack
statements_read_back start calls finish bare =
    of_pieces start calls finish (λ printed. IsTrue (has_fit_fragments printed))
    (λ printed text. result_map_both piece_clauses (λ e. e) printed ≡ Ok (read (tokens text)))
    (λ fit. ap Ok (sym (layout-reads finish (clauses start calls) (clauses-neutral start calls) (clauses-inside start calls) bare fit)))

pub statements_have_truth : StatementsHaveTruth
statements_have_truth start calls finish prints fit fit_conditions =
    let its_clauses = clauses start calls in
    of_pieces start calls finish (λ printed. IsTrue (has_fit_fragments printed)) (λ printed text. HasTruthOf (condition_groups calls) text)
    (λ fit facts.
    ap (map (truth facts)) (text-wheres finish its_clauses (clauses-neutral start calls) (clauses-inside start calls) (pieces_text (layout finish its_clauses))
    refl prints fit)
    ∙ calls-true facts calls fit_conditions) fit

pub statements_nest : StatementsNest
statements_nest start calls finish =
    let its_clauses = clauses start calls in
    of_pieces start calls finish (λ printed. IsTrue (has_balanced_fragments printed)) (λ printed text. IsTrue (is_nested finish text))
    (nests its_clauses (clauses-neutral start calls) finish (pieces_text (layout finish its_clauses)) (printed-shaped start calls finish).shape_is)

-- what holds of a statement holds of a text that is it
pub of_statement : {Z : Type 0} (start : StartText) (calls : List CallText) (finish : FinishText) (P : List ℕ → Type 0)
    (result : Result (String Z) SqlBuilderError) → IfOk result (λ s. statement start calls finish ≡ Ok (string_bytes s))
    → IfOk (statement start calls finish) P → IfOk result (λ s. P (string_bytes s))
of_statement start calls finish P result is holds =
    IfOk-weaker result (λ s. statement start calls finish ≡ Ok (string_bytes s)) (λ s. P (string_bytes s)) (λ s made. IfOk-at_ok P made holds) is

-- ---- the builder

pub builders_follow_calls : BuildersFollowCalls
builders_follow_calls start calls c = sym (clauses-push start calls c)

pub builders_print_statements : BuildersPrintStatements
builders_print_statements start calls finish = by (error_at finish (made_by start calls))
  where
    by : (error : Option SqlBuilderError)
        → unless_error error (text_at finish (made_by start calls))
        ≡ text_unless_error (unless_error error (layout finish (clauses start calls)))
    by None = ap Ok (sym (text_of_layout finish (clauses start calls)))
    by (Some error) = refl
