-- Lists of calls whose texts all fit, call by call, and their only `;`.
use Rattle.sql_builder.proofs.Imports.{◌≡◌, refl, ◌∙◌, ap, ℕ, Bool, true, false, not, List, [], ◌∷◌, ◌++◌, map, list_all, and_from, and_parts, balanced}
use Rattle.sql_builder.proofs.Imports.{has_clause_word, is_fragment, BinaryClause, list_all-map}
use Rattle.sql_builder.specs.Calls as call
use Rattle.sql_builder.specs.{CallText, call_raw_texts, binary_call, field_text, start_on, start_raw_texts, unary_call, is_fit, call_fits, Bare, Enclosed}
use Rattle.sql_builder.proofs.lists.{all-weaker}
use Rattle.sql_builder.specs.declared.steps.BinaryClause.TheVariants as binary
use Rattle.sql_builder.specs.declared.steps.UnaryClause.{UnaryClause}
use Rattle.sql_builder.specs.declared.steps.UnaryClause.TheVariants as unary
use Rattle.sql_builder.specs.declared.calls.TableStart.{TableStart}
use Rattle.sql_builder.specs.declared.calls.TableStart.TheVariants as on

-- ---- calls

pub all-more : (calls : List CallText) (c : CallText) → list_all call_fits calls ≡ true → call_fits c ≡ true → list_all call_fits (calls ++ c ∷ []) ≡ true
all-more [] c all also = and_from _ _ also refl
all-more (first ∷ calls) c all also =
    let both = and_parts (call_fits first) (list_all call_fits calls) all in and_from _ _ both.0 (all-more calls c both.1 also)

-- a start on a table that is a fragment
pub start_fits : (start : TableStart) (table : List ℕ) → is_fragment table ≡ true → list_all is_fit (start_raw_texts (start_on start table)) ≡ true
start_fits on.SelectFrom table fits = and_from _ _ fits refl
start_fits on.InsertInto table fits = and_from _ _ fits refl
start_fits on.UpdateTable table fits = and_from _ _ fits refl
start_fits on.DeleteFrom table fits = and_from _ _ fits refl

-- a call with one text that is a fragment
pub unary_fits : (clause : UnaryClause) (text given : List ℕ) → text ≡ given → is_fragment given ≡ true → call_fits (unary_call clause text) ≡ true
unary_fits clause text given is fits = ap (λ t. call_fits (unary_call clause t)) is ∙ by clause
  where
    bare : list_all is_fit (Bare given ∷ []) ≡ true
    bare = and_from _ _ fits refl

    by : (clause : UnaryClause) → call_fits (unary_call clause given) ≡ true
    by unary.Count = and_from _ _ (and_parts (balanced given) (not (has_clause_word given)) fits).0 refl
    by unary.Union = and_from _ _ (and_parts (balanced given) (not (has_clause_word given)) fits).0 refl
    by unary.UnionAll = and_from _ _ (and_parts (balanced given) (not (has_clause_word given)) fits).0 refl
    by unary.AndTable = bare
    by unary.Join = bare
    by unary.On = bare
    by unary.Field = bare
    by unary.SetField = bare
    by unary.Select = bare
    by unary.Returning = bare
    by unary.GroupBy = bare
    by unary.Having = bare
    by unary.OrderAsc = bare
    by unary.OrderDesc = bare
    by unary.Limit = bare
    by unary.Offset = bare

-- a call with two operands
pub binary_fits : (clause : BinaryClause) (one other : List ℕ) → is_fragment one ≡ true → is_fragment other ≡ true
    → call_fits (binary_call clause one other) ≡ true
binary_fits binary.OnEq one other fits also = and_from _ _ fits (and_from _ _ also refl)
binary_fits binary.CountAs one other fits also = and_from _ _ (and_parts (balanced one) (not (has_clause_word one)) fits).0 (and_from _ _ also refl)
binary_fits binary.SetTo one other fits also = and_from _ _ fits (and_from _ _ also refl)
binary_fits binary.SetStr one other fits also = and_from _ _ fits refl

-- a row
pub row_fits : (values : List (List ℕ)) → list_all balanced values ≡ true → call_fits (call.Values values) ≡ true
row_fits values all = list_all-map is_fit Enclosed values ∙ all

-- ---- texts

-- a field fits between brackets too
field-fits : (field : List ℕ) → is_fit (Bare field) ≡ true → is_fit (Enclosed field) ≡ true
field-fits field fits = (and_parts (balanced field) (not (has_clause_word field)) fits).0

fields-fit : (fields : List (List ℕ)) → list_all is_fit (map (field_text false) fields) ≡ true → list_all is_fit (map (field_text true) fields) ≡ true
fields-fit [] all = refl
fields-fit (field ∷ fields) all =
    let both = and_parts (is_fit (Bare field)) (list_all is_fit (map (field_text false) fields)) all in
    and_from _ _ (field-fits field both.0) (fields-fit fields both.1)

enclosed-fits : (c : CallText) → call_fits c ≡ true → list_all is_fit (call_raw_texts true c) ≡ true
enclosed-fits (call.Fields fields) fits = fields-fit fields fits
enclosed-fits (call.SetFields fields) fits = fields-fit fields fits
enclosed-fits (call.Field field) fits = fields-fit (field ∷ []) fits
enclosed-fits (call.SetField field) fits = fields-fit (field ∷ []) fits
enclosed-fits (call.CountAs field name) fits =
    let both = and_parts (is_fit (Enclosed field)) (list_all is_fit (Bare name ∷ [])) fits in and_from _ _ both.0 (fields-fit (name ∷ []) both.1)
enclosed-fits c fits = fits

pub calls-fit : (enclosed : Bool) (calls : List CallText) → list_all call_fits calls ≡ true
    → list_all (λ c. list_all is_fit (call_raw_texts enclosed c)) calls ≡ true
calls-fit false calls all = all
calls-fit true calls all = all-weaker call_fits (λ (c : CallText). list_all is_fit (call_raw_texts true c)) enclosed-fits calls all
