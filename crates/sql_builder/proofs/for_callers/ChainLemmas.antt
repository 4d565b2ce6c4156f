-- The builder that a chain of calls makes, and the statement of its calls.
use Rattle.sql_builder.proofs.Imports.{◌≡◌, ℕ, List, [], ◌∷◌, ◌++◌, false, Result, Ok, Err, IfOk, String, string_bytes, refl, sym, ap, ◌∙◌, subst, append_assoc}
use Rattle.sql_builder.proofs.Imports.{append-nil, list_any, result_map_both, IfSome, IsTrue, Token, Symbol, closed, is_semicolon, tokens, SqlBuilderError}
use Rattle.sql_builder.specs.{ClauseTexts, started, with_call, CallText, FinishText, StartText, clauses, AddsCondition, but_last, answer_of, EndsInOneSemicolon}
use Rattle.sql_builder.specs.{HasClosedFragments, shape, layout_at, error_at, statement, text_at, made_by, AddsBinary, fixed_piece, pieces_text, raw_piece}
use Rattle.sql_builder.specs.Calls as call
use Rattle.sql_builder.specs.declared.steps.BinaryClause.TheVariants as binary
use Rattle.sql_builder.proofs.statements.{clauses-push, clauses_start, statement_printed, text_of_layout, of_statement, statements_are_closed}
use Rattle.sql_builder.proofs.statements.{statements_keep_tokens}

-- the clauses after calls, one after another
abbrev pub with_calls : List CallText → ClauseTexts → ClauseTexts
with_calls [] r = r
with_calls (c ∷ calls) r = with_calls calls (with_call c r)

with_calls-push : (calls : List CallText) (c : CallText) (r : ClauseTexts) → with_calls (calls ++ c ∷ []) r ≡ with_call c (with_calls calls r)
with_calls-push [] c r = refl
with_calls-push (other ∷ calls) c r = with_calls-push calls c (with_call other r)

calls_read : (start : StartText) (before calls : List CallText)
    → with_calls calls (made_by start before) ≡ made_by start (before ++ calls)
calls_read start before [] = ap (made_by start) (sym (append-nil before))
calls_read start before (c ∷ calls) =
    ap (with_calls calls) (sym (clauses-push start before c)) ∙ calls_read start (before ++ c ∷ []) calls
    ∙ ap (made_by start) (append_assoc before (c ∷ []) calls)

-- calls one after another make the builder of their list
pub with_calls-read : (start : StartText) (calls : List CallText) → with_calls calls (started start) ≡ made_by start calls
with_calls-read start calls = ap (with_calls calls) (sym (clauses_start start)) ∙ calls_read start [] calls

-- A start and calls, one after another, have made this builder.
pub record Chain (start : StartText) (calls : List CallText) (r : ClauseTexts) : Type 0 where
  pub is : r ≡ with_calls calls (started start)

-- a constructor has made it
pub chain_start : {r : ClauseTexts} (start : StartText) → r ≡ started start → Chain start [] r
chain_start start made = record { is = made }

-- what a call of the chain says of the builder that it changed
abbrev pub Changes : CallText → ClauseTexts → ClauseTexts → Type 0
Changes (call.OnEq left right) r now = AddsBinary binary.OnEq left right r now
Changes (call.CountAs field name) r now = AddsBinary binary.CountAs field name r now
Changes (call.SetTo field value) r now = AddsBinary binary.SetTo field value r now
Changes (call.SetStr field value) r now = AddsBinary binary.SetStr field value r now
Changes (call.Cond family condition) r now = AddsCondition family condition r now
Changes c r now = now ≡ with_call c r

changes-call : (c : CallText) (r now : ClauseTexts) → Changes c r now → now ≡ with_call c r
changes-call (call.OnEq left right) r now changed = changed.0
changes-call (call.CountAs field name) r now changed = changed.0
changes-call (call.SetTo field value) r now changed = changed.0
changes-call (call.SetStr field value) r now changed = changed.0
changes-call (call.Cond family condition) r now changed = changed.0.0
changes-call c r now changed = changed

-- one more call makes this builder
pub chain_next : {start : StartText} {calls : List CallText} {r now : ClauseTexts} (c : CallText) → now ≡ with_call c r → Chain start calls r
    → Chain start (calls ++ c ∷ []) now
chain_next {start} {calls} c is chain = record { is = is ∙ ap (with_call c) chain.is ∙ sym (with_calls-push calls c (started start)) }

-- one more call has changed it, as its contract says
pub chain_call : {start : StartText} {calls : List CallText} {Same : Type 0} {r now : ClauseTexts} (c : CallText) → Same × Changes c r now
    → Chain start calls r → Chain start (calls ++ c ∷ []) now
chain_call {start} {calls} {Same} {r} {now} c changed chain = chain_next c (changes-call c r now changed.1) chain

-- what is printed then: the pieces that the calls make, one after another
pub chain_text : {Z E : Type 0} {start : StartText} {calls : List CallText} {r : ClauseTexts} {text : List ℕ} (finish : FinishText)
    (result : Result (String Z) E) → Chain start calls r
    → IfOk result (λ s. string_bytes s ≡ text_at finish r)
    → pieces_text (layout_at fixed_piece raw_piece finish (clauses start calls)) ≡ text → IfOk result (λ s. string_bytes s ≡ text)
chain_text finish (Err e) chain printed is = tt
chain_text {start = start} {calls = calls} finish (Ok s) chain printed is =
    printed ∙ ap (text_at finish) (chain.is ∙ with_calls-read start calls) ∙ sym (text_of_layout finish (clauses start calls)) ∙ is

-- what is printed of a builder that a start and calls make is their statement
pub made_statement : {Z : Type 0} (start : StartText) (calls : List CallText) {r : ClauseTexts} (finish : FinishText)
    (result : Result (String Z) SqlBuilderError)
    → r ≡ made_by start calls → IfOk result (λ s. string_bytes s ≡ text_at finish r) → IfSome (error_at finish r) (λ e. result ≡ Err e)
    → IfOk result (λ s. statement start calls finish ≡ Ok (string_bytes s))
made_statement start calls finish result made printed failed =
    statement_printed finish (clauses start calls) result
    (subst (λ (q : ClauseTexts). IfOk result (λ s. string_bytes s ≡ text_at finish q)) made printed)
    (subst (λ (q : ClauseTexts). IfSome (error_at finish q) (λ e. result ≡ Err e)) made failed)

-- and so is what a chain of these calls prints
pub chain_statement : {Z : Type 0} {start : StartText} {calls : List CallText} {r : ClauseTexts} (finish : FinishText)
    (result : Result (String Z) SqlBuilderError) → Chain start calls r
    → IfOk result (λ s. string_bytes s ≡ text_at finish r) → IfSome (error_at finish r) (λ e. result ≡ Err e)
    → IfOk result (λ s. statement start calls finish ≡ Ok (string_bytes s))
chain_statement {start = start} {calls = calls} finish result chain printed failed =
    made_statement start calls finish result (chain.is ∙ with_calls-read start calls) printed failed

-- the tokens of what is printed, where each fragment is closed
pub chain_tokens : {Z : Type 0} {start : StartText} {calls : List CallText} {r : ClauseTexts} {ts : List Token} (finish : FinishText)
    (result : Result (String Z) SqlBuilderError) → Chain start calls r
    → IfOk result (λ s. string_bytes s ≡ text_at finish r) → IfSome (error_at finish r) (λ e. result ≡ Err e)
    → HasClosedFragments start calls finish → shape start calls finish ≡ Ok ts → IfOk result (λ s. tokens (string_bytes s) ≡ ts)
chain_tokens {Z = Z} {start = start} {calls = calls} {ts = ts} finish result chain printed failed all is =
    by result (of_statement start calls finish _ result (chain_statement finish result chain printed failed) (statements_keep_tokens start calls finish all))
  where
    by : (result : Result (String Z) SqlBuilderError) → IfOk result (λ s. shape start calls finish ≡ Ok (tokens (string_bytes s)))
        → IfOk result (λ s. tokens (string_bytes s) ≡ ts)
    by (Err e) h = tt
    by (Ok s) h = cc

-- and it is closed
pub chain_closed : {Z : Type 0} {start : StartText} {calls : List CallText} {r : ClauseTexts} (finish : FinishText)
    (result : Result (String Z) SqlBuilderError) → Chain start calls r
    → IfOk result (λ s. string_bytes s ≡ text_at finish r) → IfSome (error_at finish r) (λ e. result ≡ Err e)
    → HasClosedFragments start calls finish → IfOk result (λ s. IsTrue (closed (string_bytes s)))
chain_closed {start = start} {calls = calls} finish result chain printed failed all =
    of_statement start calls finish _ result (chain_statement finish result chain printed failed) (statements_are_closed start calls finish all)

-- the last of the tokens is a `;`, and no other is
pub one_semicolon : {Z E : Type 0} {ts : List Token} (result : Result (String Z) E) → IfOk result (λ s. tokens (string_bytes s) ≡ ts)
    → ts ≡ but_last ts ++ Symbol 59 ∷ [] → list_any is_semicolon (but_last ts) ≡ false → IfOk result (λ s. EndsInOneSemicolon (tokens (string_bytes s)))
one_semicolon (Err e) chain ends none = tt
one_semicolon {ts = ts} (Ok s) chain ends none = (but_last ts, chain ∙ ends, none)

-- what holds of the statement of a chain's calls holds of what the chain printed
pub chain_answer : {X Z : Type 0} {start : StartText} {calls : List CallText} {r : ClauseTexts} {x : X}
    (finish : FinishText) (result : Result (String Z) SqlBuilderError) → Chain start calls r
    → IfOk result (λ s. string_bytes s ≡ text_at finish r) → IfSome (error_at finish r) (λ e. result ≡ Err e)
    → (answer : List ℕ → X) → answer_of answer start calls finish ≡ Ok x → IfOk result (λ s. answer (string_bytes s) ≡ x)
chain_answer {X = X} {Z = Z} {start = start} {calls = calls} {x = x} finish result chain printed failed answer is =
    by result (chain_statement finish result chain printed failed)
  where
    by : (result : Result (String Z) SqlBuilderError) → IfOk result (λ s. statement start calls finish ≡ Ok (string_bytes s))
        → IfOk result (λ s. answer (string_bytes s) ≡ x)
    by (Err e) made = tt
    by (Ok s) made = let same : Ok (answer (string_bytes s)) ≡ Ok x = ap (result_map_both answer (λ e. e)) (sym made) ∙ is in cc same
