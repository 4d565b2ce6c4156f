-- A SELECT whose calls leave it whole, call by call, also where a call is made only if a value is given.
use Rattle.sql_builder.proofs.Imports.{◌≡◌, refl, sym, ◌∙◌, ap, ℕ, Bool, true, false, not, ◌&&◌, List, [], ◌∷◌, ◌++◌, Option, None, Some, IfOk, option_map, pos}
use Rattle.sql_builder.proofs.Imports.{negsuc, if◌then◌else◌, IsNone, list_all, list_any, option_to_list, and_parts, and_from, not-true, or_from}
use Rattle.sql_builder.proofs.Imports.{list_all-append, LiteralValue, literal_text, null, truth, whole, words, is_empty, is_semicolon, tokens, Family, Relation}
use Rattle.sql_parts.specs.Templates.{literal_tokens}
use Rattle.sql_parts.proofs.fragments.OperandFacts.{literal-serves}
use Rattle.sql_parts.proofs.tokens.LiteralFacts.{literal-is}
use Rattle.sql_builder.specs.{ClauseTexts, started, with_call, CallText, Cond, SelectFrom, Sql, StartText, call_raw_texts, Compare, has_fit_texts, is_fit, Bare}
use Rattle.sql_builder.specs.{call_passes, is_having, is_plain, texts_pass, sql_error, HasTruthOf, condition_groups, EndsInOneSemicolon, HasClosedFragments}
use Rattle.sql_builder.specs.{statement, made_by}
use Rattle.sql_builder.proofs.for_callers.ChainLemmas.{Chain, with_calls}
use Rattle.sql_builder.proofs.lists.{all-weaker}
use Rattle.sql_builder.proofs.fragments.{fit_conditions, fit_fragments, fit_texts_are_closed, plain_texts_end, selects_need_group_by}
use Rattle.sql_builder.proofs.statements.{statements_have_truth}

-- ---- calls that are made only if a value is given

with_calls-append : (calls more : List CallText) (r : ClauseTexts) → with_calls (calls ++ more) r ≡ with_calls more (with_calls calls r)
with_calls-append [] more r = refl
with_calls-append (c ∷ calls) more r = with_calls-append calls more (with_call c r)

-- calls have changed a builder: those that are asked for, where values that are given decide which these are
pub chain_calls : {start : StartText} {calls : List CallText} {r now : ClauseTexts} → Chain start calls r → (asked made : List CallText) → asked ≡ made
    → now ≡ with_calls made r → Chain start (calls ++ asked) now
chain_calls {start} {calls} chain asked made is changed = record {
  is =
      changed ∙ ap (with_calls made) chain.is ∙ ap (λ (cs : List CallText). with_calls cs (with_calls calls (started start))) (sym is)
      ∙ sym (with_calls-append calls asked (started start));
}

-- ---- sound calls

-- a call whose texts are fit and have no `;`, and that is no `having`
abbrev pub is_sound : CallText → Bool
is_sound c = list_all is_fit (call_raw_texts false c) && (call_passes is_plain c && not (is_having c))

-- a literal is fit, and has no `;`
literal-fit : (literal : LiteralValue) → is_fit (Bare (literal_text literal)) ≡ true
literal-fit literal = let serves = literal-serves literal in and_from _ _ serves.is_balanced serves.no_clause_word

literal-plain : (literal : LiteralValue) → is_plain (literal_text literal) ≡ true
literal-plain literal = ap (λ ts. not (list_any is_semicolon ts)) (literal-is literal) ∙ by literal
  where
    by : (literal : LiteralValue) → not (list_any is_semicolon (literal_tokens literal)) ≡ true
    by null = refl
    by (truth value) = refl
    by (whole (pos n)) = refl
    by (whole (negsuc n)) = refl
    by (words text) = refl

-- so a comparison of a sound text with a literal is a sound call
pub compared_sound : (family : Family) (relation : Relation) (field : List ℕ) (literal : LiteralValue) → is_fit (Bare field) ≡ true → is_plain field ≡ true
    → is_sound (Cond family (Compare relation field (literal_text literal))) ≡ true
compared_sound family relation field literal fit plain =
    and_from _ _ (and_from _ _ fit (and_from _ _ (literal-fit literal) refl))
    (and_from _ _ (and_from _ _ plain (and_from _ _ (literal-plain literal) refl)) refl)

-- Each of these calls is sound.
pub record Sound (calls : List CallText) : Type 0 where
  pub all : list_all is_sound calls ≡ true

pub one_sound : (c : CallText) → is_sound c ≡ true → Sound (c ∷ [])
one_sound c sound = record { all = and_from _ _ sound refl }

-- the call of a value, if one is given, where that of each value is sound
pub given_sound : {X : Type 0} (made : X → CallText) → ((x : X) → is_sound (made x) ≡ true) → (given : Option X)
    → Sound (option_to_list (option_map made given))
given_sound made each None = record { all = refl }
given_sound made each (Some x) = one_sound (made x) (each x)

-- a call that is made if it is asked for
pub asked_sound : (c : CallText) → is_sound c ≡ true → (asked : Bool) → Sound (if asked then c ∷ [] else [])
asked_sound c sound true = one_sound c sound
asked_sound c sound false = record { all = refl }

-- calls, and further calls behind them
pub then_sound : {calls more : List CallText} → Sound calls → Sound more → Sound (calls ++ more)
then_sound {calls} {more} first rest = record { all = list_all-append is_sound calls more ∙ and_from _ _ first.all rest.all }

none-of : {X : Type 0} (test : X → Bool) (xs : List X) → list_all (λ x. not (test x)) xs ≡ true → list_any test xs ≡ false
none-of test [] all = refl
none-of test (x ∷ xs) all =
    let both = and_parts (not (test x)) (list_all (λ y. not (test y)) xs) all in
    or_from _ _ (not-true (test x) both.0) (none-of test xs both.1)

-- a table's text that is fit and has no `;`, and a name
abbrev pub is_sound_table : List ℕ → Bool
is_sound_table table = is_fit (Bare table) && (is_plain table && not (is_empty table))

module _ (table : List ℕ) (calls : List CallText) (named : is_sound_table table ≡ true) (sound : Sound calls) where
  table-sound : (is_fit (Bare table) ≡ true) × (is_plain table ≡ true) × (not (is_empty table) ≡ true)
  table-sound =
      let both = and_parts (is_fit (Bare table)) (is_plain table && not (is_empty table)) named in
      let rest = and_parts (is_plain table) (not (is_empty table)) both.1 in
      (both.0, rest.0, rest.1)

  part : (test : CallText → Bool) → ((c : CallText) → is_sound c ≡ true → test c ≡ true) → list_all test calls ≡ true
  part test each = all-weaker is_sound test each calls sound.all

  rest-sound : (c : CallText) → is_sound c ≡ true → (call_passes is_plain c && not (is_having c)) ≡ true
  rest-sound c is = (and_parts (list_all is_fit (call_raw_texts false c)) (call_passes is_plain c && not (is_having c)) is).1

  texts-fit : has_fit_texts (SelectFrom table) calls Sql ≡ true
  texts-fit =
      and_from _ _
      (and_from _ _ (and_from _ _ table-sound.0 refl)
      (part (λ c. list_all is_fit (call_raw_texts false c))
      (λ c is. (and_parts (list_all is_fit (call_raw_texts false c)) (call_passes is_plain c && not (is_having c)) is).0)))
      refl

  texts-plain : texts_pass is_plain (SelectFrom table) calls Sql ≡ true
  texts-plain =
      and_from _ _
      (and_from _ _ (and_from _ _ table-sound.1 refl)
      (part (call_passes is_plain) (λ c is. (and_parts (call_passes is_plain c) (not (is_having c)) (rest-sound c is)).0)))
      refl

  no-having : list_any is_having calls ≡ false
  no-having = none-of is_having calls (part (λ c. not (is_having c)) (λ c is. (and_parts (call_passes is_plain c) (not (is_having c)) (rest-sound c is)).1))

  -- each fragment is closed
  pub sound_closed : HasClosedFragments (SelectFrom table) calls Sql
  sound_closed = fit_texts_are_closed (SelectFrom table) calls Sql texts-fit

  -- the only `;` is the statement's last token
  pub sound_ends : IfOk (statement (SelectFrom table) calls Sql) (λ text. EndsInOneSemicolon (tokens text))
  sound_ends = plain_texts_end (SelectFrom table) calls sound_closed texts-plain

  -- the WHERE has the truth of the conditions
  pub sound_truth : IfOk (statement (SelectFrom table) calls Sql) (λ text. HasTruthOf (condition_groups calls) text)
  sound_truth =
      statements_have_truth (SelectFrom table) calls Sql refl (fit_fragments (SelectFrom table) calls Sql refl texts-fit)
      (fit_conditions (SelectFrom table) calls Sql texts-fit)

  -- there is no error
  pub sound_allowed : IsNone (sql_error (made_by (SelectFrom table) calls))
  sound_allowed = rw (selects_need_group_by table calls table-sound.2, no-having) refl
