-- A builder's clauses, each text in a form T.
use Rattle.std.specs.Prelude.{List, [], Option, None, Bool, false, map, option_map}
use Rattle.sql_builder.specs.declared.clauses.Kind.{Kind}
use Rattle.sql_builder.specs.declared.clauses.JoinOperator.{JoinOperator}

-- The clauses of a statement.
pub record Clauses (T : Type 0) : Type 0 where
  -- what the statement does
  pub kind : Kind
  -- the table text, with every table that was added to it
  pub table : T
  -- each join with its constraints
  pub joins : List T
  -- the operator of the joins to come
  pub operator : Option JoinOperator
  -- whether the next join is NATURAL
  pub natural : Bool
  -- whether equal rows are selected once
  pub distinct : Bool
  -- what is selected or inserted; in a query that has none, every field is
  pub fields : List T
  -- what UPDATE sets
  pub sets : List T
  -- the rows that INSERT inserts
  pub rows : List T
  -- the query whose rows INSERT inserts in place of rows of its own
  pub query : Option T
  -- what RETURNING returns
  pub returning : Option T
  -- what GROUP BY groups by
  pub group_fields : List T
  -- the condition of HAVING
  pub having : Option T
  -- the groups of conditions that WHERE joins by AND
  pub groups : List T
  -- the queries that UNION adds, each with whether it is UNION ALL
  pub unions : List (Bool × T)
  -- what ORDER BY orders by
  pub order_fields : List T
  -- how many rows there are at most
  pub limit : Option T
  -- how many rows are left out before them
  pub offset : Option T

-- the same clauses, each text in another form
abbrev pub map_clauses : {T U : Type 0} → (T → U) → Clauses T → Clauses U
map_clauses f r = record {
  kind = r.kind;
  table = f r.table;
  joins = map f r.joins;
  operator = r.operator;
  natural = r.natural;
  distinct = r.distinct;
  fields = map f r.fields;
  sets = map f r.sets;
  rows = map f r.rows;
  query = option_map f r.query;
  returning = option_map f r.returning;
  group_fields = map f r.group_fields;
  having = option_map f r.having;
  groups = map f r.groups;
  unions = map (λ union. (union.0, f union.1)) r.unions;
  order_fields = map f r.order_fields;
  limit = option_map f r.limit;
  offset = option_map f r.offset;
}

-- a statement of this kind with this table and these fields, and no other clause
abbrev pub new_clauses : {T : Type 0} → Kind → T → List T → Clauses T
new_clauses kind table fields = record {
  kind = kind;
  table = table;
  joins = [];
  operator = None;
  natural = false;
  distinct = false;
  fields = fields;
  sets = [];
  rows = [];
  query = None;
  returning = None;
  group_fields = [];
  having = None;
  groups = [];
  unions = [];
  order_fields = [];
  limit = None;
  offset = None;
}
