-- Texts that are quoted in place of others leave all other tokens of a statement as they are.
use Rattle.sql_builder.proofs.Imports.{◌≡◌, refl, sym, ◌∙◌, ap, ℕ, Bool, true, false, List, [], ◌∷◌, ◌++◌, Option, None, Some, Result, Ok, Err, map, codes}
use Rattle.sql_builder.proofs.Imports.{option_or, ◌&&◌, IfOk, IsTrue, if◌then◌else◌, option_map, result_map_both, append_assoc, map-append, IgnoresStrings}
use Rattle.sql_builder.proofs.Imports.{tokens_but, Token, Str, tokens, SqlBuilderError, somewhere, Clauses, Pieces, JoinOperator, Kind, And, Or, Family}
use Rattle.sql_parts.specs.StringTexts.{are_strings, blank_at, nowhere}
use Rattle.sql_parts.proofs.fragments.StringTextFacts.{nowhere-first, strings-first}
use Rattle.sql_builder.specs.{extend_last, join_last, CallText, FinishText, StartText, clauses, map_clauses, ConditionText, Like, InQuoted, condition_pieces}
use Rattle.sql_builder.specs.{not_text, blank_condition, DifferInQuotedTexts, IgnoresQuotedTexts, QuotedTextsAreStrings, blank_call, answer_of, places_in}
use Rattle.sql_builder.specs.{places_unless_error, quoted_places, error_of, empty_error, no_group_by_error, no_rows_error, no_table_error, comma_list, join}
use Rattle.sql_builder.specs.{pieces_tokens, has_closed_fragments, is_closed_piece, layout_at, pieces, error_at, statement, text_unless_error, unless_error}
use Rattle.sql_builder.specs.{Piece, fixed_piece, pieces_text, quoted_piece, raw_piece}
use Rattle.sql_builder.specs.Calls as call
use Rattle.sql_builder.specs.Pieces as text
use Rattle.sql_builder.specs.declared.clauses.Kind.TheVariants as kind
use Rattle.sql_builder.proofs.pieces.{printed-shaped, joined_in_form, layout_in_form, Shaped}
use Rattle.sql_builder.proofs.statements.NextCallLemmas.{joins_after, clauses_after, one_more_clauses, or_pieces, with_condition_in}
use Rattle.sql_builder.proofs.statements.LaterCallLemmas.{more_calls}
use Rattle.sql_builder.proofs.lists.{add, add_is}

-- ---- pieces

-- a piece with no text in it, if a call quoted it
abbrev pub blank_piece : Piece → Piece
blank_piece (text.Quoted quoted) = text.Quoted []
blank_piece piece = piece

abbrev pub blanks : Pieces → Pieces
blanks printed = map blank_piece printed

-- the tokens of pieces, blanked at the places of quoted texts
pub tokens-blank : (printed : Pieces) → blank_at (places_in printed) (pieces_tokens printed) ≡ pieces_tokens (blanks printed)
tokens-blank [] = refl
tokens-blank (text.Fixed words ∷ printed) =
    nowhere-first (tokens words) (places_in printed) (pieces_tokens printed) ∙ ap (λ more. tokens words ++ more) (tokens-blank printed)
tokens-blank (text.Quoted quoted ∷ printed) = ap (λ more. Str [] ∷ more) (tokens-blank printed)
tokens-blank (text.Raw raw ∷ printed) =
    nowhere-first (tokens raw) (places_in printed) (pieces_tokens printed) ∙ ap (λ more. tokens raw ++ more) (tokens-blank printed)

-- their places, and whether their fragments are closed, rest on no quoted text
places-blank : (printed : Pieces) → places_in (blanks printed) ≡ places_in printed
places-blank [] = refl
places-blank (text.Fixed words ∷ printed) = ap (λ more. nowhere (tokens words) ++ more) (places-blank printed)
places-blank (text.Quoted quoted ∷ printed) = ap (λ more. true ∷ more) (places-blank printed)
places-blank (text.Raw raw ∷ printed) = ap (λ more. nowhere (tokens raw) ++ more) (places-blank printed)

closed-blank : (printed : Pieces) → has_closed_fragments (blanks printed) ≡ has_closed_fragments printed
closed-blank [] = refl
closed-blank (text.Fixed words ∷ printed) = closed-blank printed
closed-blank (text.Quoted quoted ∷ printed) = closed-blank printed
closed-blank (text.Raw raw ∷ printed) = ap (λ more. is_closed_piece (text.Raw raw) && more) (closed-blank printed)

piece-twice : (piece : Piece) → blank_piece (blank_piece piece) ≡ blank_piece piece
piece-twice (text.Fixed words) = refl
piece-twice (text.Quoted quoted) = refl
piece-twice (text.Raw raw) = refl

-- ---- conditions

no_texts : (values : List (List ℕ)) → map blanks (map quoted_piece values) ≡ map blanks (map quoted_piece (map (λ value. []) values))
no_texts [] = refl
no_texts (value ∷ values) = ap (λ more. quoted_piece [] ∷ more) (no_texts values)

items-blank : (items : List Pieces) → blanks (comma_list fixed_piece items) ≡ comma_list fixed_piece (map blanks items)
items-blank items = joined_in_form fixed_piece fixed_piece blanks refl (map-append blank_piece) (λ w. refl) (codes ", ") items

listed : (negated : Bool) (field : List ℕ) (one other : List Pieces) → map blanks one ≡ map blanks other
    → blanks (raw_piece field ++ (fixed_piece (not_text negated ++ codes " IN (") ++ (comma_list fixed_piece one ++ fixed_piece (codes ")"))))
    ≡ blanks (raw_piece field ++ (fixed_piece (not_text negated ++ codes " IN (") ++ (comma_list fixed_piece other ++ fixed_piece (codes ")"))))
listed negated field one other same =
    ap (λ (items : Pieces). raw_piece field ++ (fixed_piece (not_text negated ++ codes " IN (") ++ items))
    (map-append blank_piece (comma_list fixed_piece one) (fixed_piece (codes ")"))
    ∙ ap (λ (items : Pieces). items ++ fixed_piece (codes ")")) (items-blank one ∙ ap (comma_list fixed_piece) same ∙ sym (items-blank other))
    ∙ sym (map-append blank_piece (comma_list fixed_piece other) (fixed_piece (codes ")"))))

pub condition-blank : (condition : ConditionText) → blanks (condition_pieces condition) ≡ blanks (condition_pieces (blank_condition condition))
condition-blank (Like negated percent field mask) = refl
condition-blank (InQuoted negated field values) = listed negated field (map quoted_piece values) (map quoted_piece (map (λ value. []) values)) (no_texts values)
condition-blank _ = refl

-- ---- one more call

module _ {X : Type 0} (f : X → X) (twice : (x : X) → f (f x) ≡ f x) where
  pub map-twice : (xs : List X) → map f (map f xs) ≡ map f xs
  map-twice [] = refl
  map-twice (x ∷ xs) = λ i. twice x i ∷ map-twice xs i

  added : (xs ys : List X) → map f (add xs ys) ≡ map f (add (map f xs) ys)
  added xs ys =
      ap (map f) (add_is xs ys) ∙ map-append f xs ys ∙ ap (λ more. more ++ map f ys) (sym (map-twice xs)) ∙ sym (map-append f (map f xs) ys)
      ∙ ap (map f) (sym (add_is (map f xs) ys))

  added_or_set : (set : Bool) (xs ys : List X) → map f (if set then ys else add xs ys) ≡ map f (if set then ys else add (map f xs) ys)
  added_or_set true xs ys = refl
  added_or_set false xs ys = added xs ys

  chosen : (new old : Option X) → option_map f (option_or new old) ≡ option_map f (option_or new (option_map f old))
  chosen None None = refl
  chosen None (Some x) = ap Some (sym (twice x))
  chosen (Some x) old = refl

  chosen_or_set : (set : Bool) (new old : Option X)
      → option_map f (if set then new else option_or new old) ≡ option_map f (if set then new else option_or new (option_map f old))
  chosen_or_set true new old = refl
  chosen_or_set false new old = chosen new old

blanks-twice : (printed : Pieces) → blanks (blanks printed) ≡ blanks printed
blanks-twice = map-twice blank_piece piece-twice

abbrev blank_union : Bool × Pieces → Bool × Pieces
blank_union union = (union.0, blanks union.1)

union-twice : (union : Bool × Pieces) → blank_union (blank_union union) ≡ blank_union union
union-twice union = ap (λ (printed : Pieces). (union.0, printed)) (blanks-twice union.1)

extended : (t : Pieces) (ts : List Pieces) → map blanks (extend_last t ts) ≡ extend_last (blanks t) (map blanks ts)
extended t [] = refl
extended t (x ∷ []) = ap (λ (y : Pieces). y ∷ []) (map-append blank_piece x t)
extended t (x ∷ y ∷ ts) = ap (λ more. blanks x ∷ more) (extended t (y ∷ ts))

extended-blank : (t : Pieces) (ts : List Pieces) → map blanks (extend_last t ts) ≡ map blanks (extend_last t (map blanks ts))
extended-blank t ts = extended t ts ∙ ap (extend_last (blanks t)) (sym (map-twice blanks blanks-twice ts)) ∙ sym (extended t (map blanks ts))

joins-blank : (c : CallText) (natural : Bool) (operator : Option JoinOperator) (ts : List Pieces)
    → map blanks (joins_after c natural operator ts) ≡ map blanks (joins_after c natural operator (map blanks ts))
joins-blank (call.Join table) natural operator ts =
    let next : List Pieces = join fixed_piece natural operator (raw_piece table) ∷ [] in
    map-append blanks ts next ∙ ap (λ more. more ++ map blanks next) (sym (map-twice blanks blanks-twice ts)) ∙ sym (map-append blanks (map blanks ts) next)
joins-blank (call.On text) natural operator ts = extended-blank _ ts
joins-blank (call.OnEq left right) natural operator ts = extended-blank _ ts
joins-blank _ natural operator ts = sym (map-twice blanks blanks-twice ts)

-- the groups after one more condition, blanked
abbrev after_blank : Family → Pieces → List Pieces → List Pieces
after_blank And condition gs = gs ++ condition ∷ []
after_blank Or condition gs = join_last or_pieces condition gs

grouped : (family : Family) (condition : ConditionText) (gs : List Pieces)
    → map blanks (with_condition_in (Some (family, condition)) gs) ≡ after_blank family (blanks (condition_pieces condition)) (map blanks gs)
grouped And condition gs = map-append blanks gs (condition_pieces condition ∷ [])
grouped Or condition [] = refl
grouped Or condition (g ∷ gs) = extended (or_pieces ++ condition_pieces condition) (g ∷ gs)

groups-blank : (o : Option (Family × ConditionText)) (gs : List Pieces) → map blanks (with_condition_in o gs) ≡ map blanks (with_condition_in o (map blanks gs))
groups-blank None gs = sym (map-twice blanks blanks-twice gs)
groups-blank (Some (family, condition)) gs =
    grouped family condition gs ∙ ap (after_blank family (blanks (condition_pieces condition))) (sym (map-twice blanks blanks-twice gs))
    ∙ sym (grouped family condition (map blanks gs))

-- clauses whose pieces are blanked
abbrev pub blanked : Clauses Pieces → Clauses Pieces
blanked r = map_clauses blanks r

alike : (c : CallText) (r : Clauses Pieces) → blanked (clauses_after c r) ≡ blanked (clauses_after c (blanked r))
alike c r = λ i. record {
  kind = r.kind;
  table = added blank_piece piece-twice r.table (call.table_in c) i;
  joins = joins-blank c r.natural r.operator r.joins i;
  operator = (clauses_after c r).operator;
  natural = (clauses_after c r).natural;
  distinct = (clauses_after c r).distinct;
  fields = added_or_set blanks blanks-twice (call.drops_fields c) r.fields (call.fields_in c) i;
  sets = added blanks blanks-twice r.sets (call.sets_in c) i;
  rows = added_or_set blanks blanks-twice (call.is_select c) r.rows (call.rows_in c) i;
  query = chosen_or_set blanks blanks-twice (call.is_values c) (call.query_in c) r.query i;
  returning = chosen blanks blanks-twice (call.returning_in c) r.returning i;
  group_fields = added blanks blanks-twice r.group_fields (call.group_fields_in c) i;
  having = chosen blanks blanks-twice (call.having_in c) r.having i;
  groups = groups-blank (call.condition_in c) r.groups i;
  unions = added blank_union union-twice r.unions (call.unions_in c) i;
  order_fields = added blanks blanks-twice r.order_fields (call.order_fields_in c) i;
  limit = chosen blanks blanks-twice (call.limit_in c) r.limit i;
  offset = chosen blanks blanks-twice (call.offset_in c) r.offset i;
}

-- a call that is blanked makes the same of them
call-blank : (c : CallText) (r : Clauses Pieces) → blanked (clauses_after c r) ≡ blanked (clauses_after (blank_call c) r)
call-blank (call.SetStr field value) r =
    ap (λ (sets : List Pieces). record (blanked (clauses_after (call.SetStr field value) r)) { sets = sets })
    (map-append blanks r.sets (call.sets_in (call.SetStr field value)) ∙ sym (map-append blanks r.sets (call.sets_in (call.SetStr field []))))
call-blank (call.Cond family condition) r =
    ap (λ (gs : List Pieces). record (blanked (clauses_after (call.Cond family condition) r)) { groups = gs })
    (grouped family condition r.groups
    ∙ ap (λ (printed : Pieces). after_blank family printed (map blanks r.groups)) (condition-blank condition)
    ∙ sym (grouped family (blank_condition condition) r.groups))
call-blank c r = refl

-- ---- all calls

module _ (start : StartText) where
  one-blank : (before : List CallText) (c : CallText) → blanked (clauses start (before ++ c ∷ [])) ≡ blanked (clauses start (before ++ blank_call c ∷ []))
  one-blank before c =
      ap blanked (one_more_clauses start before c) ∙ call-blank c (clauses start before) ∙ ap blanked (sym (one_more_clauses start before (blank_call c)))

  each-blank : (before calls : List CallText) → blanked (clauses start (before ++ calls)) ≡ blanked (clauses start (before ++ map blank_call calls))
  each-blank before [] = refl
  each-blank before (c ∷ calls) =
      ap (λ (all : List CallText). blanked (clauses start all)) (sym (append_assoc before (c ∷ []) calls))
      ∙ more_calls start blanked alike (before ++ c ∷ []) (before ++ blank_call c ∷ []) (one-blank before c) calls
      ∙ each-blank (before ++ blank_call c ∷ []) calls
      ∙ ap (λ (all : List CallText). blanked (clauses start all)) (append_assoc before (blank_call c ∷ []) (map blank_call calls))

  clauses-blank : (one other : List CallText) → DifferInQuotedTexts one other → blanked (clauses start one) ≡ blanked (clauses start other)
  clauses-blank one other same = each-blank [] one ∙ ap (λ (calls : List CallText). blanked (clauses start calls)) same ∙ sym (each-blank [] other)

-- ---- errors

no_table : (printed : Pieces) (more : Option SqlBuilderError) → no_table_error (pieces_text (blanks printed)) more ≡ no_table_error (pieces_text printed) more
no_table [] more = refl
no_table (text.Fixed [] ∷ printed) more = no_table printed more
no_table (text.Fixed (byte ∷ words) ∷ printed) more = refl
no_table (text.Quoted quoted ∷ printed) more = refl
no_table (text.Raw [] ∷ printed) more = no_table printed more
no_table (text.Raw (byte ∷ raw) ∷ printed) more = refl

no_items : (e : SqlBuilderError) (items : List Pieces) → empty_error e (map pieces_text (map blanks items)) ≡ empty_error e (map pieces_text items)
no_items e [] = refl
no_items e (item ∷ items) = refl

no_rows : (query : Option Pieces) (rows : List Pieces)
    → no_rows_error (option_map pieces_text (option_map blanks query)) (map pieces_text (map blanks rows))
    ≡ no_rows_error (option_map pieces_text query) (map pieces_text rows)
no_rows None rows = no_items _ rows
no_rows (Some query) rows = refl

no_group_by : (having : Option Pieces) (fields : List Pieces)
    → no_group_by_error (option_map pieces_text (option_map blanks having)) (map pieces_text (map blanks fields))
    ≡ no_group_by_error (option_map pieces_text having) (map pieces_text fields)
no_group_by None fields = refl
no_group_by (Some having) fields = no_items _ fields

abbrev printed_texts : Clauses Pieces → Clauses (List ℕ)
printed_texts r = map_clauses pieces_text r

error_of-blank : (k : Kind) (r : Clauses Pieces) → error_of k (printed_texts (blanked r)) ≡ error_of k (printed_texts r)
error_of-blank kind.SelectFrom r = no_table r.table _ ∙ ap (no_table_error (pieces_text r.table)) (no_group_by r.having r.group_fields)
error_of-blank kind.SelectValues r = no_items _ r.fields
error_of-blank kind.InsertInto r = no_table r.table _ ∙ ap (no_table_error (pieces_text r.table)) (no_rows r.query r.rows)
error_of-blank kind.UpdateTable r = no_table r.table _ ∙ ap (no_table_error (pieces_text r.table)) (no_items _ r.sets)
error_of-blank kind.DeleteFrom r = no_table r.table _

error_at-blank : (finish : FinishText) (r : Clauses Pieces) → error_at finish (printed_texts (blanked r)) ≡ error_at finish (printed_texts r)
error_at-blank call.Sql r = error_of-blank r.kind r
error_at-blank call.Query r = no_group_by r.having r.group_fields
error_at-blank call.QueryValues r = refl
error_at-blank call.Subquery r = no_group_by r.having r.group_fields
error_at-blank (call.SubqueryAs name) r = no_group_by r.having r.group_fields

-- ---- statements

layout-blank : (finish : FinishText) (r : Clauses Pieces)
    → blanks (layout_at fixed_piece raw_piece finish r) ≡ layout_at fixed_piece raw_piece finish (blanked r)
layout-blank finish r = layout_in_form fixed_piece fixed_piece blanks refl (map-append blank_piece) (λ w. refl) raw_piece raw_piece (λ t. refl) finish r

-- of two layouts that are equal when blanked, one of which has closed fragments
module _ (one other : Pieces) (same : blanks one ≡ blanks other) where
  same_places : places_in one ≡ places_in other
  same_places = sym (places-blank one) ∙ ap places_in same ∙ places-blank other

  pub same_closed : has_closed_fragments one ≡ true → has_closed_fragments other ≡ true
  same_closed is = sym (closed-blank other) ∙ ap has_closed_fragments (sym same) ∙ closed-blank one ∙ is

  pub same_tokens : Shaped one → Shaped other → has_closed_fragments one ≡ true
      → tokens_but (places_in one) (pieces_text one) ≡ tokens_but (places_in one) (pieces_text other)
  same_tokens shaped also is =
      ap (blank_at (places_in one)) (shaped.shape_is is) ∙ tokens-blank one ∙ ap pieces_tokens same ∙ sym (tokens-blank other)
      ∙ (λ i. blank_at (sym same_places i) (sym (also.shape_is (same_closed is)) i))

unless-places : (failed : Option SqlBuilderError) (one other : Pieces) → blanks one ≡ blanks other
    → places_unless_error (unless_error failed one) ≡ places_unless_error (unless_error failed other)
unless-places None one other same = same_places one other same
unless-places (Some error) one other same = refl

unless-tokens : (failed : Option SqlBuilderError) (one other : Pieces) → blanks one ≡ blanks other → Shaped one → Shaped other
    → IfOk (unless_error failed one) (λ printed. IsTrue (has_closed_fragments printed))
    → let but = tokens_but (places_unless_error (unless_error failed one)) in
    result_map_both but (λ e. e) (text_unless_error (unless_error failed one))
    ≡ result_map_both but (λ e. e) (text_unless_error (unless_error failed other))
unless-tokens None one other same shaped also is = ap Ok (same_tokens one other same shaped also is)
unless-tokens (Some error) one other same shaped also is = refl

module _ (start : StartText) (one other : List CallText) (finish : FinishText) (differ : DifferInQuotedTexts one other) where
  abbrev pub laid : List CallText → Pieces
  laid calls = layout_at fixed_piece raw_piece finish (clauses start calls)

  abbrev pub failed : List CallText → Option SqlBuilderError
  failed calls = error_at finish (printed_texts (clauses start calls))

  pub same_layouts : blanks (laid one) ≡ blanks (laid other)
  same_layouts =
      layout-blank finish (clauses start one) ∙ ap (layout_at fixed_piece raw_piece finish) (clauses-blank start one other differ)
      ∙ sym (layout-blank finish (clauses start other))

  pub same_errors : failed one ≡ failed other
  same_errors =
      sym (error_at-blank finish (clauses start one)) ∙ ap (λ r. error_at finish (printed_texts r)) (clauses-blank start one other differ)
      ∙ error_at-blank finish (clauses start other)

  pub quoted_places-same : quoted_places start one finish ≡ quoted_places start other finish
  quoted_places-same =
      unless-places (failed one) (laid one) (laid other) same_layouts ∙ ap (λ e. places_unless_error (unless_error e (laid other))) same_errors

  pub quoted_texts-apart : IfOk (pieces start one finish) (λ printed. IsTrue (has_closed_fragments printed))
      → answer_of (tokens_but (quoted_places start one finish)) start one finish ≡ answer_of (tokens_but (quoted_places start one finish)) start other finish
  quoted_texts-apart is =
      unless-tokens (failed one) (laid one) (laid other) same_layouts (printed-shaped start one finish) (printed-shaped start other finish) is
      ∙ ap (λ e. result_map_both (tokens_but (quoted_places start one finish)) (λ error. error)
      (text_unless_error (unless_error e (laid other)))) same_errors

-- at each of the places is a string token
piece-strings : (printed : Pieces) → are_strings (places_in printed) (pieces_tokens printed) ≡ true
piece-strings [] = refl
piece-strings (text.Fixed words ∷ printed) = strings-first (tokens words) (places_in printed) (pieces_tokens printed) ∙ piece-strings printed
piece-strings (text.Quoted quoted ∷ printed) = piece-strings printed
piece-strings (text.Raw raw ∷ printed) = strings-first (tokens raw) (places_in printed) (pieces_tokens printed) ∙ piece-strings printed

unless-strings : (failed : Option SqlBuilderError) (printed : Pieces) → Shaped printed
    → IfOk (unless_error failed printed) (λ printed. IsTrue (has_closed_fragments printed))
    → IfOk (text_unless_error (unless_error failed printed))
    (λ text. IsTrue (are_strings (places_unless_error (unless_error failed printed)) (tokens text)))
unless-strings None printed shaped is = ap (are_strings (places_in printed)) (shaped.shape_is is) ∙ piece-strings printed
unless-strings (Some error) printed shaped is = tt

pub quoted_texts-strings : QuotedTextsAreStrings
quoted_texts-strings start calls finish is =
    unless-strings (error_at finish (printed_texts (clauses start calls))) (layout_at fixed_piece raw_piece finish (clauses start calls))
    (printed-shaped start calls finish) is

-- what string tokens don't change, quoted texts don't change
unchanged : {X : Type 0} (answer : List Token → X) → IgnoresStrings answer → (places : List Bool) (one other : Result (List ℕ) SqlBuilderError)
    → result_map_both (tokens_but places) (λ e. e) one ≡ result_map_both (tokens_but places) (λ e. e) other
    → result_map_both (λ text. answer (tokens text)) (λ e. e) one ≡ result_map_both (λ text. answer (tokens text)) (λ e. e) other
unchanged answer ignores_strings places (Ok one) (Ok other) same =
    let blank : blank_at places (tokens one) ≡ blank_at places (tokens other) = cc same in
    ap Ok (ignores_strings (tokens one) (tokens other) (somewhere places (tokens one) (tokens other) blank))
unchanged answer ignores_strings places (Ok one) (Err error) same = cc same
unchanged answer ignores_strings places (Err error) (Ok other) same = cc same
unchanged answer ignores_strings places (Err error) (Err reason) same = let inner : error ≡ reason = cc same in ap Err inner

pub quoted_texts-ignored : {X : Type 0} (answer : List Token → X) → IgnoresStrings answer → IgnoresQuotedTexts (λ text. answer (tokens text))
quoted_texts-ignored answer ignores_strings start one other finish differ is =
    unchanged answer ignores_strings (quoted_places start one finish) (statement start one finish) (statement start other finish)
    (quoted_texts-apart start one other finish differ is)
