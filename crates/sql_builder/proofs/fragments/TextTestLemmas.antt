-- What tests of each raw text make of the statement.
use Rattle.sql_builder.proofs.Imports.{◌≡◌, refl, ◌∙◌, ap, ℕ, Bool, true, false, not, ◌&&◌, ◌||◌, if◌then◌else◌, List, [], ◌∷◌, ◌++◌, Option, None, Some, map}
use Rattle.sql_builder.proofs.Imports.{option_map, IsTrue, filter_map, flat_map, is_some, cons_option, last_or, list_all, list_any, false≢true, list_all-append}
use Rattle.sql_builder.proofs.Imports.{IfOk-weaker, closed, is_empty, tokens, NoGroupBy, Pieces}
use Rattle.sql_builder.specs.{CallText, FinishText, StartText, Sql, clauses, group_fields_in, having_in, call_raw_texts, finish_raw_texts, start_raw_texts}
use Rattle.sql_builder.specs.{last_given, encloses_fields, has_balanced_fragments, has_closed_fragments, has_no_semicolons, is_fit}
use Rattle.sql_builder.specs.{ClosedTextsMakeClosedFragments, FitTextsMakeClosedFragments, PlainTextsEndInOneSemicolon, PlainTextsMakePlainFragments}
use Rattle.sql_builder.specs.{SelectsNeedGroupBy, TextsAreFitCallByCall, TextsPassCallByCall, all_pass, call_passes, is_group_by, is_having, is_plain}
use Rattle.sql_builder.specs.{texts_pass, no_group_by_error, EndsInOneSemicolon, pieces, pieces_text}
use Rattle.sql_builder.proofs.fragments.NeutralLemmas.{clauses-inside}
use Rattle.sql_builder.proofs.fragments.FitLemmas.{balanced_fragments, unless}
use Rattle.sql_builder.proofs.pieces.{sql-semicolon}
use Rattle.sql_builder.proofs.reading.{fragments_closed, layout}
use Rattle.sql_builder.proofs.fragments.PropertyLemmas.{calls-whatever, whatever, Passes}
use Rattle.sql_builder.proofs.fragments.PassLemmas.{printed-passes}
use Rattle.sql_builder.proofs.statements.{of_pieces}

-- ---- one call after another

last_first : (start calls finish more : Bool) → ((start && (calls && more)) && finish) ≡ (((start && calls) && finish) && more)
last_first false calls finish more = refl
last_first true false finish more = refl
last_first true true true true = refl
last_first true true true false = refl
last_first true true false true = refl
last_first true true false false = refl

pub texts_pass_call_by_call : TextsPassCallByCall
texts_pass_call_by_call test start calls more finish =
    let first = all_pass test (start_raw_texts start) in
    let last = all_pass test (finish_raw_texts finish) in
    ap (λ all. (first && all) && last) (list_all-append (call_passes test) calls more)
    ∙ last_first first (list_all (call_passes test) calls) last (list_all (call_passes test) more)

pub texts_are_fit_call_by_call : TextsAreFitCallByCall
texts_are_fit_call_by_call start calls more finish =
    let fit = λ (c : CallText). list_all is_fit (call_raw_texts (encloses_fields start finish) c) in
    let first = list_all is_fit (start_raw_texts start) in
    let last = list_all is_fit (finish_raw_texts finish) in
    ap (λ all. (first && all) && last) (list_all-append fit calls more) ∙ last_first first (list_all fit calls) last (list_all fit more)

-- ---- fragments

fragments-pass : (test : List ℕ → Bool) (start : StartText) (calls : List CallText) (finish : FinishText) → texts_pass test start calls finish ≡ true
    → Passes test whatever (layout finish (clauses start calls))
fragments-pass test start calls finish all = printed-passes test whatever start calls finish (calls-whatever calls) all

pub closed_texts : ClosedTextsMakeClosedFragments
closed_texts start calls finish all = unless _ (layout finish (clauses start calls)) has_closed_fragments (fragments-pass closed start calls finish all)

pub fit_texts_are_closed : FitTextsMakeClosedFragments
fit_texts_are_closed start calls finish all =
    IfOk-weaker (pieces start calls finish) (λ printed. IsTrue (has_balanced_fragments printed))
    (λ printed. IsTrue (has_closed_fragments printed)) fragments_closed
    (balanced_fragments start calls finish all)

pub plain_texts : PlainTextsMakePlainFragments
plain_texts start calls finish all = unless _ (layout finish (clauses start calls)) has_no_semicolons (fragments-pass is_plain start calls finish all)

pub plain_texts_end : PlainTextsEndInOneSemicolon
plain_texts_end start calls all plain =
    of_pieces start calls Sql (λ printed. IsTrue (has_closed_fragments printed)) (λ printed text. EndsInOneSemicolon (tokens text))
    (λ is. sql-semicolon (clauses start calls) (clauses-inside start calls) is (fragments-pass is_plain start calls Sql plain)) all

-- ---- the error of a SELECT

having_given : (calls : List CallText) (before : Option Pieces)
    → is_some (last_or before (filter_map having_in calls)) ≡ (is_some before || list_any is_having calls)
having_given [] None = refl
having_given [] (Some printed) = refl
having_given (c ∷ calls) before = by (having_in c) before (having_given calls)
  where
    by : (found before : Option Pieces)
        → ((next : Option Pieces) → is_some (last_or next (filter_map having_in calls)) ≡ (is_some next || list_any is_having calls))
        → is_some (last_or before (cons_option found (filter_map having_in calls))) ≡ (is_some before || (is_some found || list_any is_having calls))
    by None before rest = rest before
    by (Some printed) None rest = rest (Some printed)
    by (Some printed) (Some other) rest = rest (Some printed)

grouped : (calls : List CallText) → not (is_empty (flat_map group_fields_in calls)) ≡ list_any is_group_by calls
grouped [] = refl
grouped (c ∷ calls) = by (group_fields_in c) (grouped calls)
  where
    by : (found : List Pieces) → not (is_empty (flat_map group_fields_in calls)) ≡ list_any is_group_by calls
        → not (is_empty (found ++ flat_map group_fields_in calls)) ≡ (not (is_empty found) || list_any is_group_by calls)
    by [] rest = rest
    by (field ∷ fields) rest = refl

failed : (having : Option Pieces) (fields : List Pieces)
    → no_group_by_error (option_map pieces_text having) (map pieces_text fields)
    ≡ (if is_some having && not (not (is_empty fields)) then Some NoGroupBy else None)
failed None fields = refl
failed (Some condition) [] = refl
failed (Some condition) (field ∷ fields) = refl

pub selects_need_group_by : SelectsNeedGroupBy
selects_need_group_by [] calls some = absurd (false≢true some)
selects_need_group_by (byte ∷ bytes) calls some =
    failed (last_given having_in calls) (flat_map group_fields_in calls)
    ∙ (λ i. if having_given calls None i && not (grouped calls i) then Some NoGroupBy else None)
