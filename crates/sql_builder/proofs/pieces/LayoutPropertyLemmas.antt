-- What is laid out of clauses, for any property of sections that their openings and their bodies give.
use Rattle.sql_builder.proofs.Imports.{◌≡◌, refl, ℕ, Bool, true, false, not, ◌&&◌, List, [], ◌∷◌, ◌++◌, Option, None, Some, map, codes, pos, IfSome}
use Rattle.sql_builder.proofs.Imports.{AllByRecursion, list_any, and_parts, not-true, is_clause_word, join_with, Token, begins_with, closed, ends_with}
use Rattle.sql_builder.proofs.Imports.{has_semicolon, is_edge, tokens, is_even, Clauses, Pieces, Kind, SelectFrom, SelectValues, InsertInto, UpdateTable}
use Rattle.sql_builder.proofs.Imports.{DeleteFrom}
use Rattle.sql_builder.specs.{Section, delete_sections, fields_or_star, group_by_sections, insert_sections, insert_target, optional_section, order_by_sections}
use Rattle.sql_builder.specs.{query_sections, range_sections, returning_sections, section, select_opening, statement_sections, table_and_joins, union_opening}
use Rattle.sql_builder.specs.{union_sections, update_sections, values_sections, where_sections, comma_list, in_brackets, Piece, fixed_piece, clause_bodies}
use Rattle.sql_builder.specs.{is_union, pieces_tokens}
use Rattle.sql_builder.proofs.fragments.ClauseFacts.{PartsAre}
use Rattle.sql_builder.proofs.fragments.PropertyLemmas.{Each, PreservedByWords, before-each, joined, lacks_dollar, listed}
use Rattle.sql_builder.proofs.pieces.ShapeLemmas.{Whole}
use Rattle.sql_builder.proofs.reading.ClauseWordLemmas.{laid_from}
use Rattle.sql_builder.proofs.reading.SectionLemmas.{Front, opening_clauses, with_last}

-- words that open a clause, or two, and none of them WHERE
pub record Opening (words : List ℕ) : Type 0 where
  pub unmarked : lacks_dollar words ≡ true
  pub whole : Whole words
  pub ends : ends_with is_edge words ≡ true
  pub front : Front (tokens words)
  pub starts : begins_with is_clause_word (tokens words) ≡ true
  pub elsewhere : (ts : List Token) → clause_bodies (codes "WHERE") (with_last ts (opening_clauses words)) ≡ []

-- all that is asked of the words but what they give to WHERE
abbrev opens : List ℕ → Bool
opens words =
    lacks_dollar words && (closed words && (not (has_semicolon words) && (ends_with is_edge words
    && (laid_from (pos 0) (tokens words) && (is_even (tokens words) && (not (list_any is_union (tokens words)) && begins_with is_clause_word (tokens words)))))))

opening : {words : List ℕ} → opens words ≡ true → ((ts : List Token) → clause_bodies (codes "WHERE") (with_last ts (opening_clauses words)) ≡ [])
    → Opening words
opening {words = words} all elsewhere =
    let own = and_parts (lacks_dollar words) _ all in
    let is = and_parts (closed words) _ own.1 in
    let plain = and_parts (not (has_semicolon words)) _ is.1 in
    let ends = and_parts (ends_with is_edge words) _ plain.1 in
    let laid = and_parts (laid_from (pos 0) (tokens words)) _ ends.1 in
    let even = and_parts (is_even (tokens words)) _ laid.1 in
    let last = and_parts (not (list_any is_union (tokens words))) (begins_with is_clause_word (tokens words)) even.1 in
    record {
      unmarked = own.0;
      whole = record { is_closed = is.0; plain = not-true _ plain.0 };
      ends = ends.0;
      front = record { laid = laid.0; even = even.0; no_union = not-true _ last.0 };
      starts = last.1;
      elsewhere = elsewhere;
    }

select-opening : (distinct : Bool) → Opening (select_opening distinct)
select-opening true = opening refl (λ ts. refl)
select-opening false = opening refl (λ ts. refl)

-- the body of WHERE
abbrev pub where_body : Pieces → List Pieces → Pieces
where_body g [] = g
where_body g (h ∷ gs) = join_with (fixed_piece (codes " AND ")) (map (in_brackets fixed_piece) (g ∷ h ∷ gs))

-- the tokens of WHERE's body, if there is one
abbrev pub where_bodies : List Pieces → List (List Token)
where_bodies [] = []
where_bodies (g ∷ gs) = pieces_tokens (where_body g gs) ∷ []

-- in the statement of each kind
abbrev pub kind_bodies : Kind → Clauses Pieces → List (List Token)
kind_bodies SelectFrom r = where_bodies r.groups
kind_bodies SelectValues r = []
kind_bodies InsertInto r = []
kind_bodies UpdateTable r = where_bodies r.groups
kind_bodies DeleteFrom r = where_bodies r.groups

-- What keeps a property: P of bodies, R of what may follow some, U of a union's query, Q of the last sections of a statement and S of all, each
-- with the bodies of WHERE there.
pub record PreservedByLayout (P R U : Pieces → Type 0) (Q S : List (Section Piece) → List (List Token) → Type 0) : Type 0 where
  pub joins : PreservedByWords P R
  pub brackets : (x : Pieces) → P x → P (in_brackets fixed_piece x)
  pub target : (x : Pieces) → P x → R (fixed_piece (codes " (") ++ (x ++ fixed_piece (codes ")")))
  pub none : Q [] []
  pub further : (words : List ℕ) (body : Pieces) (more : List (Section Piece)) (wheres : List (List Token)) → Opening words
      → begins_with is_edge words ≡ true → P body → Q more wheres → Q (section words body ∷ more) wheres
  pub where_section : (body : Pieces) (more : List (Section Piece)) → P body → Q more [] → Q (section (codes " WHERE ") body ∷ more) (pieces_tokens body ∷ [])
  pub union : (all : Bool) (body : Pieces) (more : List (Section Piece)) → U body → Q more [] → Q (section (union_opening all) body ∷ more) []
  pub first : (words : List ℕ) (body : Pieces) (more : List (Section Piece)) (wheres : List (List Token)) → Opening words
      → P body → Q more wheres → S (section words body ∷ more) wheres

module _ {P R U : Pieces → Type 0} {Q S : List (Section Piece) → List (List Token) → Type 0} (preserved : PreservedByLayout P R U Q S) where
  -- each clause, before others
  optional-laid : (words : List ℕ) (body : Option Pieces) (more : List (Section Piece)) → Opening words → begins_with is_edge words ≡ true → IfSome body P
      → Q more [] → Q (optional_section words body ++ more) []
  optional-laid words None more opens begins h rest = rest
  optional-laid words (Some body) more opens begins h rest = preserved.further words body more [] opens begins h rest

  last-laid : (words : List ℕ) (body : Option Pieces) → Opening words → begins_with is_edge words ≡ true → IfSome body P → Q (optional_section words body) []
  last-laid words None opens begins h = preserved.none
  last-laid words (Some body) opens begins h = preserved.further words body [] [] opens begins h preserved.none

  all-brackets : (items : List Pieces) → Each P items → Each P (map (in_brackets fixed_piece) items)
  all-brackets [] all = tt
  all-brackets (item ∷ items) all = (preserved.brackets item all.0, all-brackets items all.1)

  where-laid : (groups : List Pieces) (more : List (Section Piece)) → Each P groups → Q more []
      → Q (where_sections fixed_piece groups ++ more) (where_bodies groups)
  where-laid [] more all rest = rest
  where-laid (g ∷ []) more all rest = preserved.where_section g more all.0 rest
  where-laid (g ∷ h ∷ gs) more all rest =
      preserved.where_section (where_body g (h ∷ gs)) more
      (joined preserved.joins (codes " AND ") refl (map (in_brackets fixed_piece) (g ∷ h ∷ gs)) (all-brackets (g ∷ h ∷ gs) all)) rest

  group_by-laid : (fields : List Pieces) (having : Option Pieces) (more : List (Section Piece)) → Each P fields → IfSome having P → Q more []
      → Q (group_by_sections fixed_piece fields having ++ more) []
  group_by-laid [] having more all h rest = rest
  group_by-laid (field ∷ fields) having more all h rest =
      preserved.further (codes " GROUP BY ") (comma_list fixed_piece (field ∷ fields)) (optional_section (codes " HAVING ") having ++ more) []
      (opening refl (λ ts. refl)) refl (listed preserved.joins (field ∷ fields) all)
      (optional-laid (codes " HAVING ") having more (opening refl (λ ts. refl)) refl h rest)

  unions-laid : (unions : List (Bool × Pieces)) (more : List (Section Piece)) → AllByRecursion (λ (union : Bool × Pieces). U union.1) unions → Q more []
      → Q (union_sections unions ++ more) []
  unions-laid [] more all rest = rest
  unions-laid (u ∷ us) more all rest = preserved.union u.0 u.1 (union_sections us ++ more) all.0 (unions-laid us more all.1 rest)

  order_by-laid : (unions : List (Bool × Pieces)) (fields : List Pieces) (more : List (Section Piece)) → Each P fields → Q more []
      → Q (order_by_sections fixed_piece unions fields ++ more) []
  order_by-laid [] [] more all rest = rest
  order_by-laid [] (field ∷ fields) more all rest =
      preserved.further (codes " ORDER BY ") (comma_list fixed_piece (field ∷ fields)) more [] (opening refl (λ ts. refl)) refl
      (listed preserved.joins (field ∷ fields) all) rest
  order_by-laid (u ∷ us) fields more all rest = rest

  fields-kept : (fields : List Pieces) → Each P fields → P (fields_or_star fixed_piece fields)
  fields-kept [] all = preserved.joins.words (codes "*") refl
  fields-kept (field ∷ fields) all = listed preserved.joins (field ∷ fields) all

  pub fields-enclosed : (fields : List Pieces) → Each P fields → R (fixed_piece (codes " (") ++ (comma_list fixed_piece fields ++ fixed_piece (codes ")")))
  fields-enclosed fields all = preserved.target (comma_list fixed_piece fields) (listed preserved.joins fields all)

  -- a query, of a table or of values
  pub query-laid : (r : Clauses Pieces) → PartsAre P P U r → S (query_sections fixed_piece r) (where_bodies r.groups)
  query-laid r parts =
      let range = range_sections r in
      let ordered = order_by_sections fixed_piece r.unions r.order_fields ++ range in
      let united = union_sections r.unions ++ ordered in
      let grouped = group_by_sections fixed_piece r.group_fields r.having ++ united in
      let more = where_sections fixed_piece r.groups ++ grouped in
      preserved.first (select_opening r.distinct) (fields_or_star fixed_piece r.fields)
      (section (codes " FROM ") (table_and_joins fixed_piece r.table r.joins) ∷ more) (where_bodies r.groups) (select-opening r.distinct)
      (fields-kept r.fields parts.fields)
      (preserved.further (codes " FROM ") (table_and_joins fixed_piece r.table r.joins) more (where_bodies r.groups) (opening refl (λ ts. refl)) refl
      (preserved.joins.append r.table _ parts.table (before-each preserved.joins (codes " ") refl r.joins parts.joins))
      (where-laid r.groups grouped parts.groups
      (group_by-laid r.group_fields r.having united parts.group_fields parts.having
      (unions-laid r.unions ordered parts.unions
      (order_by-laid r.unions r.order_fields range parts.order_fields
      (optional-laid (codes " LIMIT ") r.limit (optional_section (codes " OFFSET ") r.offset) (opening refl (λ ts. refl)) refl parts.limit
      (last-laid (codes " OFFSET ") r.offset (opening refl (λ ts. refl)) refl parts.offset)))))))

  pub values-laid : {V : Pieces → Type 0} (r : Clauses Pieces) → PartsAre P P V r → S (values_sections fixed_piece r) []
  values-laid r parts =
      preserved.first (codes "SELECT ") (comma_list fixed_piece r.fields) [] [] (opening refl (λ ts. refl)) (listed preserved.joins r.fields parts.fields)
      preserved.none

  module _ {F V : Pieces → Type 0} (r : Clauses Pieces) (parts : PartsAre P F V r) where
    returning-laid : Q (returning_sections r) []
    returning-laid = last-laid (codes " RETURNING ") r.returning (opening refl (λ ts. refl)) refl parts.returning

    wheres-laid : Q (where_sections fixed_piece r.groups ++ returning_sections r) (where_bodies r.groups)
    wheres-laid = where-laid r.groups (returning_sections r) parts.groups returning-laid

    pub update-laid : S (update_sections fixed_piece r) (where_bodies r.groups)
    update-laid =
        let more = where_sections fixed_piece r.groups ++ returning_sections r in
        preserved.first (codes "UPDATE ") r.table (section (codes " SET ") (comma_list fixed_piece r.sets) ∷ more) (where_bodies r.groups)
        (opening refl (λ ts. refl)) parts.table
        (preserved.further (codes " SET ") (comma_list fixed_piece r.sets) more (where_bodies r.groups) (opening refl (λ ts. refl)) refl
        (listed preserved.joins r.sets parts.sets) wheres-laid)

    pub delete-laid : S (delete_sections fixed_piece r) (where_bodies r.groups)
    delete-laid =
        preserved.first (codes "DELETE FROM ") r.table (where_sections fixed_piece r.groups ++ returning_sections r) (where_bodies r.groups)
        (opening refl (λ ts. refl)) parts.table wheres-laid

    -- an INSERT, whose fields have a property that their brackets turn to that of what may follow
    module _ (enclosed : (fields : List Pieces) → Each F fields
        → R (fixed_piece (codes " (") ++ (comma_list fixed_piece fields ++ fixed_piece (codes ")")))) where
      pub target-kept : P (insert_target fixed_piece r)
      target-kept = preserved.joins.append r.table _ parts.table (enclosed r.fields parts.fields)

      pub insert-laid : (given : Option Pieces) → IfSome given P → S (insert_sections fixed_piece given r) []
      insert-laid None h =
          preserved.first (codes "INSERT INTO ") (insert_target fixed_piece r) (section (codes " VALUES ") (comma_list fixed_piece r.rows) ∷ returning_sections r) []
          (opening refl (λ ts. refl)) target-kept
          (preserved.further (codes " VALUES ") (comma_list fixed_piece r.rows) (returning_sections r) [] (opening refl (λ ts. refl)) refl
          (listed preserved.joins r.rows parts.rows) returning-laid)
      insert-laid (Some rows) h =
          preserved.first (codes "INSERT INTO ") (insert_target fixed_piece r ++ (fixed_piece (codes " ") ++ rows)) (returning_sections r) []
          (opening refl (λ ts. refl))
          (preserved.joins.append (insert_target fixed_piece r) (fixed_piece (codes " ") ++ rows) target-kept (preserved.joins.behind (codes " ") rows refl h))
          returning-laid

  pub statement-laid : (kind : Kind) (r : Clauses Pieces) → PartsAre P P U r → S (statement_sections fixed_piece kind r) (kind_bodies kind r)
  statement-laid SelectFrom r parts = query-laid r parts
  statement-laid SelectValues r parts = values-laid r parts
  statement-laid InsertInto r parts = insert-laid r parts fields-enclosed r.query parts.query
  statement-laid UpdateTable r parts = update-laid r parts
  statement-laid DeleteFrom r parts = delete-laid r parts
