-- One more call, and the clauses of a list of calls.
use Rattle.sql_builder.proofs.Imports.{◌≡◌, List, [], ◌∷◌, ◌++◌, Option, None, Some, ◌||◌, ◌&&◌, not, if◌then◌else◌, codes, map, filter_map, flat_map, refl, ap}
use Rattle.sql_builder.proofs.Imports.{sym, ◌∙◌, append_assoc, ℕ, Bool, false, append-nil, map-map, filter_map-append, cons_option, option_or, Clauses, Pieces}
use Rattle.sql_builder.proofs.Imports.{Family, And, Or, join_with, JoinOperator}
use Rattle.sql_builder.specs.{join_last, extend_last, StartText, CallText, clauses, condition_in, conditions_of, fields_in, group_fields_in, group_pieces}
use Rattle.sql_builder.specs.{groups, having_in, is_distinct, is_join, is_natural, is_select, is_values, limit_in, offset_in, opens_group, operator_in}
use Rattle.sql_builder.specs.{order_fields_in, query_in, returning_in, rows_in, drops_fields, sets_in, start_fields, table_in, table_of, start_table, unions_in}
use Rattle.sql_builder.specs.{Join, On, OnEq, constraint_in, join_after, join_in, joins_of, natural_of, operator_of, ConditionText, condition_pieces, Group}
use Rattle.sql_builder.specs.{cut, in_place, until, fixed_piece, raw_piece, join}
use Rattle.sql_builder.proofs.lists.{add, add_is, any-push, any_unfollowed-push, flat-push, flat_since-push, last-push, last_since-push, extend_last-nil}
use Rattle.sql_builder.proofs.lists.{group_of, groups-push, one_more}
use Rattle.sql_builder.specs.Calls as call

-- the joins of the calls behind those before them
abbrev joins : List CallText → List CallText → List Pieces
joins before calls = in_place join_in before calls

-- a join ends the constraints of the one before it

until-join : (table : List ℕ) (calls : List CallText)
    → until is_join (calls ++ Join table ∷ []) ≡ until is_join calls
until-join table [] = refl
until-join table (c ∷ calls) =
    ap (λ (rest : List CallText). if is_join c then [] else c ∷ rest) (until-join table calls)

same_join : (table : List ℕ) (before : List CallText) (c : CallText) (calls : List CallText)
    → join_in before c (calls ++ Join table ∷ []) ≡ join_in before c calls
same_join table before (Join t) calls =
    ap (λ (rest : List CallText). (join_after before t ++ flat_map constraint_in rest) ∷ [])
    (until-join table calls)
same_join table before _ calls = refl

one_more_join : (table : List ℕ) (before calls : List CallText)
    → joins before (calls ++ Join table ∷ [])
    ≡ joins before calls ++ join_in (before ++ calls) (Join table) []
one_more_join table before [] = rw (append-nil before) refl
one_more_join table before (c ∷ calls) =
    rw (same_join table before c calls, one_more_join table (before ++ c ∷ []) calls)
    (rw (append_assoc before (c ∷ []) calls)
    (sym (append_assoc (join_in before c calls) (joins (before ++ c ∷ []) calls)
    (join_in (before ++ c ∷ calls) (Join table) []))))

-- a call that is no join goes on with the last join

no_join : (before : List CallText) (c : CallText) (after : List CallText) → is_join c ≡ false
    → join_in before c after ≡ []
no_join before (Join table) after h = cc
no_join before _ after h = refl

regrouped : (part k rest rest' t : Pieces) (js js' : List Pieces)
    → ((part ++ k) ++ rest) ∷ js ≡ extend_last t (((part ++ k) ++ rest') ∷ js')
    → (part ++ (k ++ rest)) ∷ js ≡ extend_last t ((part ++ (k ++ rest')) ∷ js')
regrouped part k rest rest' t js js' h =
    ap (λ (p : Pieces). p ∷ js) (sym (append_assoc part k rest)) ∙ h
    ∙ ap (λ (p : Pieces). extend_last t (p ∷ js')) (append_assoc part k rest')

abbrev constraints : List CallText → Pieces
constraints calls = flat_map constraint_in (until is_join calls)

-- a join whose text begins with this part goes on, if it is the last
last_join : (c : CallText) → is_join c ≡ false → (part : Pieces) (before calls : List CallText)
    → (part ++ constraints (calls ++ c ∷ [])) ∷ extend_last (constraint_in c) (joins before calls)
    ≡ extend_last (constraint_in c) ((part ++ constraints calls) ∷ joins before calls)
last_join c h part before [] = rw h (simp append-nil)
last_join c h part before (Join table ∷ calls) = refl
last_join c h part before (On text ∷ calls) =
    let d = On text in
    regrouped part (constraint_in d) (constraints (calls ++ c ∷ [])) (constraints calls) (constraint_in c) _ _
    (last_join c h (part ++ constraint_in d) (before ++ d ∷ []) calls)
last_join c h part before (OnEq left right ∷ calls) =
    let d = OnEq left right in
    regrouped part (constraint_in d) (constraints (calls ++ c ∷ [])) (constraints calls) (constraint_in c) _ _
    (last_join c h (part ++ constraint_in d) (before ++ d ∷ []) calls)
last_join c h part before (d ∷ calls) = last_join c h part (before ++ d ∷ []) calls

longer_join : (c : CallText) → is_join c ≡ false → (before calls : List CallText)
    → joins before (calls ++ c ∷ []) ≡ extend_last (constraint_in c) (joins before calls)
longer_join c h before [] = rw (no_join before c [] h) refl
longer_join c h before (Join table ∷ calls) =
    rw (longer_join c h (before ++ Join table ∷ []) calls)
    (last_join c h (join_after before table) (before ++ Join table ∷ []) calls)
longer_join c h before (d ∷ calls) = longer_join c h (before ++ d ∷ []) calls

-- the joins after one more call, of those before it, the operator in force and whether NATURAL waits
abbrev pub joins_after : CallText → Bool → Option JoinOperator → List Pieces → List Pieces
joins_after (Join table) natural operator ts = ts ++ join fixed_piece natural operator (raw_piece table) ∷ []
joins_after (On text) natural operator ts = extend_last (constraint_in (On text)) ts
joins_after (OnEq left right) natural operator ts = extend_last (constraint_in (OnEq left right)) ts
joins_after _ natural operator ts = ts

pub joins-push : (calls : List CallText) (c : CallText)
    → joins_of (calls ++ c ∷ []) ≡ joins_after c (natural_of calls) (operator_of calls) (joins_of calls)
joins-push calls (Join table) = one_more_join table [] calls
joins-push calls (On text) = longer_join (On text) refl [] calls
joins-push calls (OnEq left right) = longer_join (OnEq left right) refl [] calls
joins-push calls c = longer_join c refl [] calls ∙ extend_last-nil (joins_of calls)

-- what is between two conditions of a group
abbrev pub or_pieces : Pieces
or_pieces = fixed_piece (codes " OR ")

-- the groups after one more call
abbrev pub with_condition_in : Option (Family × ConditionText) → List Pieces → List Pieces
with_condition_in None groups = groups
with_condition_in (Some (And, condition)) groups = groups ++ condition_pieces condition ∷ []
with_condition_in (Some (Or, condition)) groups = join_last or_pieces (condition_pieces condition) groups

-- the pieces of a group whose conditions still have their families
abbrev pieces_with_families : Group (Family × ConditionText) → Pieces
pieces_with_families group = group_pieces (conditions_of group)

-- the same, by the pieces of each condition
abbrev pieces_in_family : Family × ConditionText → Pieces
pieces_in_family condition = condition_pieces condition.1

same : (gs : List (Group (Family × ConditionText))) → map pieces_with_families gs ≡ map (group_of opens_group pieces_in_family or_pieces) gs
same [] = refl
same (g ∷ gs) =
    ap (λ (more : List Pieces). join_with or_pieces (pieces_in_family g.0 ∷ more) ∷ map pieces_with_families gs)
    (map-map condition_pieces (λ (c : Family × ConditionText). c.1) g.1)
    ∙ ap (λ (more : List Pieces). group_of opens_group pieces_in_family or_pieces g ∷ more) (same gs)

put : (k : Family × ConditionText) (gs : List Pieces) → one_more (opens_group k) or_pieces (pieces_in_family k) gs ≡ with_condition_in (Some k) gs
put (And, k) gs = refl
put (Or, k) gs = refl

calls-push : (calls : List CallText) (c : CallText)
    → map group_pieces (groups (calls ++ c ∷ [])) ≡ with_condition_in (condition_in c) (map group_pieces (groups calls))
calls-push calls c =
    rw (map-map group_pieces conditions_of (cut opens_group (filter_map condition_in (calls ++ c ∷ []))))
    (rw (map-map group_pieces conditions_of (cut opens_group (filter_map condition_in calls)))
    (rw (filter_map-append condition_in calls (c ∷ [])) (by (condition_in c))))
  where
    by : (o : Option (Family × ConditionText))
        → map pieces_with_families (cut opens_group (filter_map condition_in calls ++ cons_option o []))
        ≡ with_condition_in o (map pieces_with_families (cut opens_group (filter_map condition_in calls)))
    by None = rw (append-nil (filter_map condition_in calls)) refl
    by (Some k) =
        let before = filter_map condition_in calls in
        same (cut opens_group (before ++ k ∷ [])) ∙ groups-push opens_group pieces_in_family or_pieces before k
        ∙ ap (one_more (opens_group k) or_pieces (pieces_in_family k)) (sym (same (cut opens_group before)))
        ∙ put k (map pieces_with_families (cut opens_group before))

-- the clauses after one more call, of those before it
abbrev pub clauses_after : CallText → Clauses Pieces → Clauses Pieces
clauses_after c r = record {
  kind = r.kind;
  table = add r.table (table_in c);
  joins = joins_after c r.natural r.operator r.joins;
  operator = option_or (operator_in c) r.operator;
  natural = is_natural c || (not (is_join c) && r.natural);
  distinct = is_distinct c || r.distinct;
  fields = if drops_fields c then fields_in c else add r.fields (fields_in c);
  sets = add r.sets (sets_in c);
  rows = if is_select c then rows_in c else add r.rows (rows_in c);
  query = if is_values c then query_in c else option_or (query_in c) r.query;
  returning = option_or (returning_in c) r.returning;
  group_fields = add r.group_fields (group_fields_in c);
  having = option_or (having_in c) r.having;
  groups = with_condition_in (condition_in c) r.groups;
  unions = add r.unions (unions_in c);
  order_fields = add r.order_fields (order_fields_in c);
  limit = option_or (limit_in c) r.limit;
  offset = option_or (offset_in c) r.offset;
}

table-push : (start : StartText) (calls : List CallText) (c : CallText)
    → table_of start (calls ++ c ∷ []) ≡ add (table_of start calls) (table_in c)
table-push start calls c =
    let old = flat_map table_in calls in
    rw (flat-push table_in calls c, add_is old (table_in c), add_is (table_of start calls) (table_in c))
    (sym (append_assoc (start_table start) old (table_in c)))

pub one_more_clauses : (start : StartText) (calls : List CallText) (c : CallText)
    → clauses start (calls ++ c ∷ []) ≡ clauses_after c (clauses start calls)
one_more_clauses start calls c =
    rw (
      table-push start calls c,
      joins-push calls c,
      last-push operator_in calls c,
      any_unfollowed-push is_natural is_join calls c,
      any-push is_distinct calls c,
      flat_since-push drops_fields fields_in (call.SetFields (start_fields start) ∷ calls) c,
      flat-push sets_in calls c,
      flat_since-push is_select rows_in calls c,
      last_since-push is_values query_in calls c,
      last-push returning_in calls c,
      flat-push group_fields_in calls c,
      last-push having_in calls c,
      calls-push calls c,
      flat-push unions_in calls c,
      flat-push order_fields_in calls c,
      last-push limit_in calls c,
      last-push offset_in calls c,
    ) refl
