-- What holds of the pieces of each clause.
use Rattle.sql_builder.proofs.Imports.{ℕ, Bool, List, Option, None, Some, map, [], IfSome, option_map, AllByRecursion, Clauses, Pieces}
use Rattle.sql_builder.specs.{map_clauses, raw_piece}
use Rattle.sql_builder.proofs.lists.{map-all}

-- P holds of each clause's pieces, but F of those of fields and U of those of a union's query
pub record PartsAre (P F U : Pieces → Type 0) (r : Clauses Pieces) : Type 0 where
  pub table : P r.table
  pub joins : AllByRecursion P r.joins
  pub fields : AllByRecursion F r.fields
  pub sets : AllByRecursion P r.sets
  pub rows : AllByRecursion P r.rows
  pub query : IfSome r.query P
  pub returning : IfSome r.returning P
  pub group_fields : AllByRecursion P r.group_fields
  pub having : IfSome r.having P
  pub groups : AllByRecursion P r.groups
  pub unions : AllByRecursion (λ (union : Bool × Pieces). U union.1) r.unions
  pub order_fields : AllByRecursion P r.order_fields
  pub limit : IfSome r.limit P
  pub offset : IfSome r.offset P

-- without unions, and with these clauses behind
pub without_unions : {P F U V : Pieces → Type 0} {r : Clauses Pieces} → PartsAre P F U r → (order_fields : List Pieces) (limit offset : Option Pieces)
    → AllByRecursion P order_fields → IfSome limit P → IfSome offset P
    → PartsAre P F V (record r { unions = []; order_fields = order_fields; limit = limit; offset = offset })
without_unions parts order_fields limit offset ordered limited from = record {
  table = parts.table;
  joins = parts.joins;
  fields = parts.fields;
  sets = parts.sets;
  rows = parts.rows;
  query = parts.query;
  returning = parts.returning;
  group_fields = parts.group_fields;
  having = parts.having;
  groups = parts.groups;
  unions = tt;
  order_fields = ordered;
  limit = limited;
  offset = from;
}

module _ (P : Pieces → Type 0) (raw : (text : List ℕ) → P (raw_piece text)) where
  raw-all : (texts : List (List ℕ)) → AllByRecursion P (map raw_piece texts)
  raw-all texts = map-all P raw_piece raw texts

  raw-some : (text : Option (List ℕ)) → IfSome (option_map raw_piece text) P
  raw-some None = tt
  raw-some (Some text) = raw text

  raw-unions : (unions : List (Bool × List ℕ))
      → AllByRecursion (λ (union : Bool × Pieces). P union.1) (map (λ (union : Bool × List ℕ). (union.0, raw_piece union.1)) unions)
  raw-unions unions = map-all (λ (union : Bool × Pieces). P union.1) (λ (union : Bool × List ℕ). (union.0, raw_piece union.1)) (λ union. raw union.1) unions

  -- the clauses of a builder, whose texts are fragments
  pub raw-parts : (r : Clauses (List ℕ)) → PartsAre P P P (map_clauses raw_piece r)
  raw-parts r = record {
    table = raw r.table;
    joins = raw-all r.joins;
    fields = raw-all r.fields;
    sets = raw-all r.sets;
    rows = raw-all r.rows;
    query = raw-some r.query;
    returning = raw-some r.returning;
    group_fields = raw-all r.group_fields;
    having = raw-some r.having;
    groups = raw-all r.groups;
    unions = raw-unions r.unions;
    order_fields = raw-all r.order_fields;
    limit = raw-some r.limit;
    offset = raw-some r.offset;
  }
