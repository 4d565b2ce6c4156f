-- What holds of what each call adds to each clause, for any property of pieces that each step preserves.
use Rattle.sql_builder.specs.{RawText, Bare, Enclosed, CallText, StartText, clauses, condition_in, conditions_of, constraint_in, drops_fields, fields_in}
use Rattle.sql_builder.specs.{group_fields_in, group_pieces, having_in, is_join, is_select, is_values, join_after, join_in, limit_in, natural_of}
use Rattle.sql_builder.specs.{offset_in, opens_group, operator_of, order_fields_in, query_in, returning_in, rows_in, sets_in, start_fields, start_table}
use Rattle.sql_builder.specs.{table_in, unions_in, call_raw_texts, field_text, start_raw_texts, ConditionText, condition_pieces, condition_raw_texts}
use Rattle.sql_builder.specs.{call_quoted_texts, condition_quoted_texts, Group, cut, in_place, last_given, since, until, equation, join_words, order}
use Rattle.sql_builder.specs.{fixed_piece, quoted_piece, raw_piece}
use Rattle.sql_builder.proofs.Imports.{◌≡◌, refl, ℕ, Bool, true, false, ◌&&◌, List, [], ◌∷◌, ◌++◌, Option, None, Some, map, codes, cond, ◌∙◌, flat_map, sym}
use Rattle.sql_builder.proofs.Imports.{IfSome, filter_map, AllByRecursion, cons_option, last_or, list_all, list_any, and_parts, and_from, Pieces, Family}
use Rattle.sql_builder.proofs.Imports.{JoinOperator, list_all-map, ends_with, is_edge}
use Rattle.sql_builder.proofs.fragments.ClauseFacts.{PartsAre}
use Rattle.sql_builder.proofs.lists.{append-all, cut-all, tested-all}
use Rattle.sql_builder.proofs.fragments.PropertyLemmas.{PreservedByCalls, are_own, between, one, Each, joined}
use Rattle.sql_builder.proofs.conditions.{condition-preserved}
use Rattle.sql_builder.specs.Calls as call
use Rattle.sql_builder.specs.declared.clauses.JoinOperator.TheVariants as operator

-- the words of a join, and that they end at an edge
pub join-words : (natural : Bool) (chosen : Option JoinOperator)
    → (are_own (join_words natural chosen) ≡ true) × (ends_with is_edge (join_words natural chosen) ≡ true)
join-words true None = (refl, refl)
join-words true (Some operator.Left) = (refl, refl)
join-words true (Some operator.LeftOuter) = (refl, refl)
join-words true (Some operator.Right) = (refl, refl)
join-words true (Some operator.RightOuter) = (refl, refl)
join-words true (Some operator.Inner) = (refl, refl)
join-words true (Some operator.Cross) = (refl, refl)
join-words false None = (refl, refl)
join-words false (Some operator.Left) = (refl, refl)
join-words false (Some operator.LeftOuter) = (refl, refl)
join-words false (Some operator.Right) = (refl, refl)
join-words false (Some operator.RightOuter) = (refl, refl)
join-words false (Some operator.Inner) = (refl, refl)
join-words false (Some operator.Cross) = (refl, refl)

-- lists of calls that are all fit
abbrev call_ok : Bool → (RawText → Bool) → CallText → Bool
call_ok enclosed ok c = list_all ok (call_raw_texts enclosed c)

-- and that quote texts that are all fine
abbrev whole_ok : Bool → (RawText → Bool) → (List ℕ → Bool) → CallText → Bool
whole_ok enclosed ok fine c = call_ok enclosed ok c && list_all fine (call_quoted_texts c)

whole-all : (enclosed : Bool) (ok : RawText → Bool) (fine : List ℕ → Bool) (calls : List CallText)
    → list_all (λ c. list_all fine (call_quoted_texts c)) calls ≡ true → list_all (call_ok enclosed ok) calls ≡ true
    → list_all (whole_ok enclosed ok fine) calls ≡ true
whole-all enclosed ok fine [] quotes all = refl
whole-all enclosed ok fine (c ∷ calls) quotes all =
    let first = and_parts (list_all fine (call_quoted_texts c)) _ quotes in
    let second = and_parts (call_ok enclosed ok c) (list_all (call_ok enclosed ok) calls) all in
    and_from _ _ (and_from _ _ second.0 first.0) (whole-all enclosed ok fine calls first.1 second.1)

since-all : {X : Type 0} (ok p : X → Bool) (xs : List X) → list_all ok xs ≡ true → list_all ok (since p xs) ≡ true
since-all ok p [] all = refl
since-all ok p (x ∷ xs) all = by (list_any p xs) (since-all ok p xs (and_parts (ok x) (list_all ok xs) all).1)
  where
    by : (some : Bool) → list_all ok (since p xs) ≡ true → list_all ok (cond some (since p xs) (x ∷ xs)) ≡ true
    by true rest = rest
    by false rest = all

until-all : {X : Type 0} (ok p : X → Bool) (xs : List X) → list_all ok xs ≡ true → list_all ok (until p xs) ≡ true
until-all ok p [] all = refl
until-all ok p (x ∷ xs) all = let both = and_parts (ok x) (list_all ok xs) all in by (p x) both.0 (until-all ok p xs both.1)
  where
    by : (ends : Bool) → ok x ≡ true → list_all ok (until p xs) ≡ true → list_all ok (cond ends [] (x ∷ until p xs)) ≡ true
    by true here rest = refl
    by false here rest = and_from _ _ here rest

module _ {enclosed : Bool} {ok : RawText → Bool} {fine : List ℕ → Bool} {P Q F U : Pieces → Type 0}
    (preserved : PreservedByCalls enclosed ok fine P Q F U) where
  -- texts one by one
  fields-all : (fields : List (List ℕ)) → list_all ok (map (field_text enclosed) fields) ≡ true → Each F (map raw_piece fields)
  fields-all fields all = tested-all F raw_piece (λ field. ok (field_text enclosed field)) preserved.field fields
      (sym (list_all-map ok (field_text enclosed) fields) ∙ all)

  one-field : (field : List ℕ) → (ok (field_text enclosed field) && true) ≡ true → F (raw_piece field)
  one-field field all = preserved.field field (and_parts (ok (field_text enclosed field)) true all).0

  equation-preserved : (left right : List ℕ) → (ok (Bare left) && (ok (Bare right) && true)) ≡ true
      → P (equation fixed_piece (raw_piece left) (raw_piece right))
  equation-preserved left right all =
      let both = and_parts (ok (Bare left)) (ok (Bare right) && true) all in
      between preserved.joins (codes " = ") (raw_piece left) (raw_piece right) refl (preserved.bare left both.0)
      (one preserved right both.1)

  -- what each call adds to each clause
  start_table-preserved : (start : StartText) → list_all ok (start_raw_texts start) ≡ true → P (start_table start)
  start_table-preserved (call.SelectFrom table) all = one preserved table all
  start_table-preserved (call.SelectValues values) all = preserved.joins.none
  start_table-preserved (call.InsertInto table) all = one preserved table all
  start_table-preserved (call.UpdateTable table) all = one preserved table all
  start_table-preserved (call.DeleteFrom table) all = one preserved table all

  table_in-preserved : (c : CallText) → call_ok enclosed ok c ≡ true → Q (table_in c)
  table_in-preserved (call.AndTable table) all = preserved.joins.behind (codes ", ") (raw_piece table) refl (one preserved table all)
  table_in-preserved _ all = preserved.joins.nothing

  constraint_in-preserved : (c : CallText) → call_ok enclosed ok c ≡ true → Q (constraint_in c)
  constraint_in-preserved (call.On text) all = preserved.joins.behind (codes " ON ") (raw_piece text) refl (one preserved text all)
  constraint_in-preserved (call.OnEq left right) all = preserved.joins.behind (codes " ON ") _ refl (equation-preserved left right all)
  constraint_in-preserved _ all = preserved.joins.nothing

  fields_in-preserved : (c : CallText) → call_ok enclosed ok c ≡ true → Each F (fields_in c)
  fields_in-preserved (call.Fields fields) all = fields-all fields all
  fields_in-preserved (call.SetFields fields) all = fields-all fields all
  fields_in-preserved (call.Field field) all = (one-field field all, tt)
  fields_in-preserved (call.SetField field) all = (one-field field all, tt)
  fields_in-preserved (call.Count field) all = (preserved.count field (and_parts (ok (Enclosed field)) true all).0, tt)
  fields_in-preserved (call.CountAs field name) all =
      let both = and_parts (ok (Enclosed field)) (ok (field_text enclosed name) && true) all in
      (preserved.count_as field name both.0 (and_parts (ok (field_text enclosed name)) true both.1).0, tt)
  fields_in-preserved _ all = tt

  sets_in-preserved : (c : CallText) → whole_ok enclosed ok fine c ≡ true → Each P (sets_in c)
  sets_in-preserved (call.SetTo field value) all =
      (equation-preserved field value (and_parts (call_ok enclosed ok (call.SetTo field value)) true all).0, tt)
  sets_in-preserved (call.SetStr field value) all =
      let both = and_parts (ok (Bare field) && true) (fine value && true) all in (
        between preserved.joins (codes " = ") (raw_piece field) (quoted_piece value) refl (one preserved field both.0)
            (preserved.quoted value (and_parts (fine value) true both.1).0),
        tt,
      )
  sets_in-preserved _ all = tt

  rows_in-preserved : (c : CallText) → call_ok enclosed ok c ≡ true → Each P (rows_in c)
  rows_in-preserved (call.Values values) all = (preserved.row values all, tt)
  rows_in-preserved _ all = tt

  group_fields_in-preserved : (c : CallText) → call_ok enclosed ok c ≡ true → Each P (group_fields_in c)
  group_fields_in-preserved (call.GroupBy field) all = (one preserved field all, tt)
  group_fields_in-preserved _ all = tt

  order-preserved : (descending : Bool) (field : List ℕ) → (ok (Bare field) && true) ≡ true → P (order fixed_piece descending (raw_piece field))
  order-preserved true field all = preserved.joins.append (raw_piece field) (fixed_piece (codes " DESC")) (one preserved field all)
      (preserved.joins.ending (codes " DESC") refl refl)
  order-preserved false field all = one preserved field all

  order_fields_in-preserved : (c : CallText) → call_ok enclosed ok c ≡ true → Each P (order_fields_in c)
  order_fields_in-preserved (call.OrderBy field descending) all = (order-preserved descending field all, tt)
  order_fields_in-preserved (call.OrderAsc field) all = (one preserved field all, tt)
  order_fields_in-preserved (call.OrderDesc field) all = (order-preserved true field all, tt)
  order_fields_in-preserved _ all = tt

  unions_in-preserved : (c : CallText) → call_ok enclosed ok c ≡ true → AllByRecursion (λ (union : Bool × Pieces). U union.1) (unions_in c)
  unions_in-preserved (call.Union query) all = (preserved.union query (and_parts (ok (Enclosed query)) true all).0, tt)
  unions_in-preserved (call.UnionAll query) all = (preserved.union query (and_parts (ok (Enclosed query)) true all).0, tt)
  unions_in-preserved _ all = tt

  query_in-preserved : (c : CallText) → call_ok enclosed ok c ≡ true → IfSome (query_in c) P
  query_in-preserved (call.Select query) all = one preserved query all
  query_in-preserved _ all = tt

  returning_in-preserved : (c : CallText) → call_ok enclosed ok c ≡ true → IfSome (returning_in c) P
  returning_in-preserved (call.Returning fields) all = one preserved fields all
  returning_in-preserved call.ReturningId all = preserved.joins.words (codes "id") refl
  returning_in-preserved _ all = tt

  having_in-preserved : (c : CallText) → call_ok enclosed ok c ≡ true → IfSome (having_in c) P
  having_in-preserved (call.Having condition) all = one preserved condition all
  having_in-preserved _ all = tt

  limit_in-preserved : (c : CallText) → call_ok enclosed ok c ≡ true → IfSome (limit_in c) P
  limit_in-preserved (call.Limit limit) all = one preserved limit all
  limit_in-preserved _ all = tt

  offset_in-preserved : (c : CallText) → call_ok enclosed ok c ≡ true → IfSome (offset_in c) P
  offset_in-preserved (call.Offset offset) all = one preserved offset all
  offset_in-preserved _ all = tt

  -- the same of whole lists
  each-preserved : {Y : Type 0} (R : Y → Type 0) (test : CallText → Bool) (f : CallText → List Y)
      → ((c : CallText) → test c ≡ true → AllByRecursion R (f c)) → (calls : List CallText) → list_all test calls ≡ true
      → AllByRecursion R (flat_map f calls)
  each-preserved R test f each [] all = tt
  each-preserved R test f each (c ∷ calls) all =
      let both = and_parts (test c) (list_all test calls) all in
      append-all R (f c) (flat_map f calls) (each c both.0) (each-preserved R test f each calls both.1)

  flat-preserved : (f : CallText → Pieces) → ((c : CallText) → call_ok enclosed ok c ≡ true → Q (f c)) → (calls : List CallText)
      → list_all (call_ok enclosed ok) calls ≡ true → Q (flat_map f calls)
  flat-preserved f each [] all = preserved.joins.nothing
  flat-preserved f each (c ∷ calls) all =
      let both = and_parts (call_ok enclosed ok c) (list_all (call_ok enclosed ok) calls) all in
      preserved.joins.further (f c) (flat_map f calls) (each c both.0) (flat-preserved f each calls both.1)

  last-preserved : (f : CallText → Option Pieces) → ((c : CallText) → call_ok enclosed ok c ≡ true → IfSome (f c) P) → (calls : List CallText)
      → list_all (call_ok enclosed ok) calls ≡ true
      → (before : Option Pieces) → IfSome before P → IfSome (last_or before (filter_map f calls)) P
  last-preserved f each [] all before holds = holds
  last-preserved f each (c ∷ calls) all before holds =
      let both = and_parts (call_ok enclosed ok c) (list_all (call_ok enclosed ok) calls) all in
      by (f c) (each c both.0) (λ given keeps. last-preserved f each calls both.1 given keeps)
    where
      by : (given : Option Pieces) → IfSome given P → ((next : Option Pieces) → IfSome next P → IfSome (last_or next (filter_map f calls)) P)
          → IfSome (last_or before (cons_option given (filter_map f calls))) P
      by None keeps rest = rest before holds
      by (Some printed) keeps rest = rest (Some printed) keeps

  last_given-preserved : (f : CallText → Option Pieces) → ((c : CallText) → call_ok enclosed ok c ≡ true → IfSome (f c) P) → (calls : List CallText)
      → list_all (call_ok enclosed ok) calls ≡ true → IfSome (last_given f calls) P
  last_given-preserved f each calls all = last-preserved f each calls all None tt

  join_in-preserved : (before : List CallText) (c : CallText) (after : List CallText) → call_ok enclosed ok c ≡ true → list_all (call_ok enclosed ok) after
      ≡ true → Each P (join_in before c after)
  join_in-preserved before (call.Join table) after here all = (
    preserved.joins.append (join_after before table) (flat_map constraint_in (until is_join after))
        (let words = join-words (natural_of before) (operator_of before) in
        preserved.joins.before (join_words (natural_of before) (operator_of before)) (raw_piece table) words.0 words.1 (one preserved table here))
        (flat-preserved constraint_in constraint_in-preserved (until is_join after) (until-all (call_ok enclosed ok) is_join after all)),
    tt,
  )
  join_in-preserved before _ after here all = tt

  joins-preserved : (before calls : List CallText) → list_all (call_ok enclosed ok) calls ≡ true → Each P (in_place join_in before calls)
  joins-preserved before [] all = tt
  joins-preserved before (c ∷ calls) all =
      let both = and_parts (call_ok enclosed ok c) (list_all (call_ok enclosed ok) calls) all in
      append-all P (join_in before c calls) (in_place join_in (before ++ c ∷ []) calls) (join_in-preserved before c calls both.0 both.1)
      (joins-preserved (before ++ c ∷ []) calls both.1)

  -- the groups of conditions
  abbrev one_ok : ConditionText → Bool
  one_ok c = list_all ok (condition_raw_texts c) && list_all fine (condition_quoted_texts c)

  abbrev condition_ok : Family × ConditionText → Bool
  condition_ok c = one_ok c.1

  conditions-ok : (calls : List CallText) → list_all (whole_ok enclosed ok fine) calls ≡ true → list_all condition_ok (filter_map condition_in calls) ≡ true
  conditions-ok [] all = refl
  conditions-ok (c ∷ calls) all =
      let both = and_parts (whole_ok enclosed ok fine c) (list_all (whole_ok enclosed ok fine) calls) all in
      by c both.0 (conditions-ok calls both.1)
    where
      by : (c : CallText) → whole_ok enclosed ok fine c ≡ true → list_all condition_ok (filter_map condition_in calls) ≡ true
          → list_all condition_ok (cons_option (condition_in c) (filter_map condition_in calls)) ≡ true
      by (call.Cond family condition) here rest = and_from _ _ here rest
      by _ here rest = rest

  group-preserved : (group : Group ConditionText) → list_all one_ok (group.0 ∷ group.1) ≡ true
      → P (group_pieces group)
  group-preserved group all =
      joined preserved.joins (codes " OR ") refl (map condition_pieces (group.0 ∷ group.1))
      (tested-all P condition_pieces one_ok
      (λ c h. let here = and_parts (list_all ok (condition_raw_texts c)) (list_all fine (condition_quoted_texts c)) h in
      condition-preserved preserved c here.1 here.0) (group.0 ∷ group.1) all)

  groups-preserved : (found : List (Group (Family × ConditionText)))
      → list_all (λ (group : Group (Family × ConditionText)). list_all condition_ok (group.0 ∷ group.1)) found ≡ true
      → Each P (map group_pieces (map conditions_of found))
  groups-preserved [] all = tt
  groups-preserved (group ∷ found) all =
      let both = and_parts (list_all condition_ok (group.0 ∷ group.1))
      (list_all (λ (g : Group (Family × ConditionText)). list_all condition_ok (g.0 ∷ g.1)) found) all in (
        group-preserved (conditions_of group) (list_all-map one_ok (λ (c : Family × ConditionText). c.1)
            (group.0 ∷ group.1) ∙ both.0),
        groups-preserved found both.1,
      )

  -- the clauses of a list of calls
  pub clauses-preserved : (start : StartText) (calls : List CallText) → list_all (λ c. list_all fine (call_quoted_texts c)) calls ≡ true
      → list_all ok (start_raw_texts start) ≡ true
      → call_ok enclosed ok (call.SetFields (start_fields start)) ≡ true → list_all (call_ok enclosed ok) calls ≡ true → PartsAre P F U (clauses start calls)
  clauses-preserved start calls quotes here first all = record {
    table = preserved.joins.append (start_table start) (flat_map table_in calls) (start_table-preserved start here)
        (flat-preserved table_in table_in-preserved calls all);
    joins = joins-preserved [] calls all;
    fields =
        let from_start = call.SetFields (start_fields start) ∷ calls in
        each-preserved F (call_ok enclosed ok) fields_in fields_in-preserved (since drops_fields from_start)
        (since-all (call_ok enclosed ok) drops_fields from_start (and_from _ _ first all));
    sets = each-preserved P (whole_ok enclosed ok fine) sets_in sets_in-preserved calls (whole-all enclosed ok fine calls quotes all);
    rows = each-preserved P (call_ok enclosed ok) rows_in rows_in-preserved (since is_select calls) (since-all (call_ok enclosed ok) is_select calls all);
    query = last_given-preserved query_in query_in-preserved (since is_values calls) (since-all (call_ok enclosed ok) is_values calls all);
    returning = last_given-preserved returning_in returning_in-preserved calls all;
    group_fields = each-preserved P (call_ok enclosed ok) group_fields_in group_fields_in-preserved calls all;
    having = last_given-preserved having_in having_in-preserved calls all;
    groups = groups-preserved (cut opens_group (filter_map condition_in calls))
        (cut-all condition_ok opens_group (filter_map condition_in calls) (conditions-ok calls (whole-all enclosed ok fine calls quotes all)));
    unions = each-preserved (λ (union : Bool × Pieces). U union.1) (call_ok enclosed ok) unions_in unions_in-preserved calls all;
    order_fields = each-preserved P (call_ok enclosed ok) order_fields_in order_fields_in-preserved calls all;
    limit = last_given-preserved limit_in limit_in-preserved calls all;
    offset = last_given-preserved offset_in offset_in-preserved calls all;
  }
