-- A list of calls with one more, and the statement of the calls that were made.
use Rattle.sql_builder.proofs.Imports.{◌≡◌, ℕ, ◌+◌, ◌<◌, List, [], ◌∷◌, ◌++◌, Option, None, Some, true, false, codes, map, take, get_or, length, String}
use Rattle.sql_builder.proofs.Imports.{string_bytes, Result, Ok, Err, IfOk, IfErr, refl, ap, sym, ◌∙◌, inl, inr, take_more, map-append, append-nil, IfSome}
use Rattle.sql_builder.proofs.Imports.{IsNone, ◌⊎◌, Clauses, Pieces, And, Or, SqlBuilderError}
use Rattle.sql_builder.specs.{extend_last, join_last, started, with_call, StartText, CallText, FinishText, clauses, call_view, map_clauses, ConditionText}
use Rattle.sql_builder.specs.{condition_bytes, condition_pieces, byte_units, row, layout_at, pieces_at, error_at, text_at, text_unless_error, unless_error}
use Rattle.sql_builder.specs.{made_by, fixed_piece, pieces_text, raw_piece}
use Rattle.sql_builder.specs.Calls as call
use Rattle.sql_builder.specs.declared.calls.Call.{Call}
use Rattle.sql_parts.specs.Error.{FailsOnlyByMemory, IsMemory}
use Rattle.sql_builder.proofs.statements.NextCallLemmas.{clauses_after, one_more_clauses, or_pieces}
use Rattle.sql_builder.proofs.pieces.LayoutMapLemmas.{layout_in_form, row_in_form}
use Rattle.sql_builder.proofs.lists.{add, add_is}
use Rattle.sql_builder.proofs.pieces.ShapeLemmas.{text-append, texts_of_raw}
use Rattle.sql_builder.proofs.conditions.{condition_printed}

-- the texts of pieces

row_printed : (values : List (List ℕ))
    → pieces_text (row fixed_piece (map raw_piece values)) ≡ row byte_units values
row_printed values =
    row_in_form fixed_piece byte_units pieces_text refl text-append append-nil (map raw_piece values)
    ∙ ap (row byte_units) (texts_of_raw values)

added_texts : (ts : List Pieces) (more : List (List ℕ))
    → map pieces_text (add ts (map raw_piece more)) ≡ map pieces_text ts ++ more
added_texts ts more =
    let raw = map raw_piece more in
    rw (add_is ts raw, map-append pieces_text ts raw, texts_of_raw more) refl

extended_texts : (t : Pieces) (ts : List Pieces)
    → map pieces_text (extend_last t ts) ≡ extend_last (pieces_text t) (map pieces_text ts)
extended_texts t [] = refl
extended_texts t (x ∷ []) = ap (λ (y : List ℕ). y ∷ []) (text-append x t)
extended_texts t (x ∷ y ∷ ts) =
    ap (λ (rest : List (List ℕ)). pieces_text x ∷ rest) (extended_texts t (y ∷ ts))

alternative_texts : (c : ConditionText) (groups : List Pieces)
    → map pieces_text (join_last or_pieces (condition_pieces c) groups)
    ≡ join_last (codes " OR ") (condition_bytes c) (map pieces_text groups)
alternative_texts c [] = ap (λ (t : List ℕ). t ∷ []) (condition_printed c)
alternative_texts c (group ∷ groups) =
    extended_texts (or_pieces ++ condition_pieces c) (group ∷ groups)
    ∙ ap (λ (t : List ℕ). extend_last (codes " OR " ++ t) (map pieces_text (group ∷ groups))) (condition_printed c)

-- the clauses

-- the texts of the clauses after one more call
clauses_printed : (c : CallText) (r : Clauses Pieces)
    → map_clauses pieces_text (clauses_after c r) ≡ with_call c (map_clauses pieces_text r)
clauses_printed call.Natural r = refl
clauses_printed call.Left r = refl
clauses_printed call.LeftOuter r = refl
clauses_printed call.Right r = refl
clauses_printed call.RightOuter r = refl
clauses_printed call.Inner r = refl
clauses_printed call.Cross r = refl
clauses_printed call.Distinct r = refl
clauses_printed call.ReturningId r = refl
clauses_printed (call.AndTable table) r = simp (text-append, append-nil)
clauses_printed (call.On text) r = simp (extended_texts, append-nil)
clauses_printed (call.OnEq left right) r = simp (extended_texts, append-nil)
clauses_printed (call.Fields fields) r =
    ap (λ (fs : List (List ℕ)). record (map_clauses pieces_text r) { fields = fs })
    (added_texts r.fields fields)
clauses_printed (call.SetFields fields) r = simp texts_of_raw
clauses_printed (call.Values values) r = simp (map-append, row_printed)
clauses_printed (call.OrderBy field true) r = simp map-append
clauses_printed (call.OrderBy field false) r = simp (map-append, append-nil)
clauses_printed (call.Cond And condition) r = simp (map-append, condition_printed)
clauses_printed (call.Cond Or condition) r =
    ap (λ (groups : List (List ℕ)). record (map_clauses pieces_text r) { groups = groups })
    (alternative_texts condition r.groups)
clauses_printed c r = simp (map-append, append-nil)

pub clauses_start : (start : StartText) → made_by start [] ≡ started start
clauses_start (call.SelectFrom table) = simp append-nil
clauses_start (call.SelectValues values) = simp (append-nil, texts_of_raw)
clauses_start (call.InsertInto table) = simp append-nil
clauses_start (call.UpdateTable table) = simp append-nil
clauses_start (call.DeleteFrom table) = simp append-nil

pub clauses-push : (start : StartText) (calls : List CallText) (c : CallText)
    → made_by start (calls ++ c ∷ []) ≡ with_call c (made_by start calls)
clauses-push start calls c =
    ap (map_clauses pieces_text) (one_more_clauses start calls c) ∙ clauses_printed c (clauses start calls)

pub one_more_call : (start : StartText) (calls : List Call) (i : ℕ) (c : Call) → i < length calls
    → c ≡ get_or calls i c
    → made_by start (map call_view (take (i + 1) calls))
    ≡ with_call (call_view c) (made_by start (map call_view (take i calls)))
one_more_call start calls i c l e =
    rw (take_more calls i c l) (rw (sym e) (rw (map-append call_view (take i calls) (c ∷ []))
    (clauses-push start (map call_view (take i calls)) (call_view c))))

-- the statement

pub text_of_layout : (f : FinishText) (r : Clauses Pieces)
    → pieces_text (layout_at fixed_piece raw_piece f r) ≡ text_at f (map_clauses pieces_text r)
text_of_layout f r =
    layout_in_form fixed_piece byte_units pieces_text refl text-append append-nil
    raw_piece byte_units append-nil f r

-- what the builder prints is the statement of the pieces
pub statement_printed : {Z : Type 0} (f : FinishText) (r : Clauses Pieces)
    (result : Result (String Z) SqlBuilderError)
    → IfOk result (λ s. string_bytes s ≡ text_at f (map_clauses pieces_text r))
    → IfSome (error_at f (map_clauses pieces_text r)) (λ e. result ≡ Err e)
    → IfOk result (λ s. text_unless_error (pieces_at f r) ≡ Ok (string_bytes s))
statement_printed {Z = Z} f r result = by result (error_at f (map_clauses pieces_text r))
  where
    by : (result : Result (String Z) SqlBuilderError) (o : Option SqlBuilderError)
        → IfOk result (λ s. string_bytes s ≡ text_at f (map_clauses pieces_text r))
        → IfSome o (λ e. result ≡ Err e)
        → IfOk result
        (λ s. text_unless_error (unless_error o (layout_at fixed_piece raw_piece f r)) ≡ Ok (string_bytes s))
    by (Err e) o text failed = tt
    by (Ok s) None text failed = ap Ok (text_of_layout f r ∙ sym text)
    by (Ok s) (Some e) text failed = cc

-- the builder's error is that of the statement, or `Memory`
pub statement_error : {T : Type 0} (f : FinishText) (r : Clauses Pieces) (result : Result T SqlBuilderError)
    → IfSome (error_at f (map_clauses pieces_text r)) (λ e. result ≡ Err e)
    → (IsNone (error_at f (map_clauses pieces_text r)) → FailsOnlyByMemory result)
    → IfErr result (λ e. IsMemory e ⊎ (text_unless_error (pieces_at f r) ≡ Err e))
statement_error {T = T} f r result = by result (error_at f (map_clauses pieces_text r))
  where
    by : (result : Result T SqlBuilderError) (o : Option SqlBuilderError) → IfSome o (λ e. result ≡ Err e)
        → (IsNone o → FailsOnlyByMemory result)
        → IfErr result
        (λ e. IsMemory e ⊎ (text_unless_error (unless_error o (layout_at fixed_piece raw_piece f r)) ≡ Err e))
    by (Ok s) o failed memory = tt
    by (Err e) None failed memory = inl (memory refl)
    by (Err e) (Some g) failed memory = inr cc
