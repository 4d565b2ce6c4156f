-- A statement as a list of sections, over any kind of unit A: bytes, or pieces.
use Rattle.std.specs.Prelude.{ℕ, List, [], ◌∷◌, ◌++◌, Option, None, Some, Bool, true, false, map, codes, flat_map}
use Rattle.sql_parts.specs.declared.error.SqlBuilderError.{SqlBuilderError}
use Rattle.sql_parts.specs.declared.error.SqlBuilderError.TheVariants.{NoTableName, NoValues, NoSetFields, NoGroupBy}
use Rattle.sql_builder.specs.Clauses.{Clauses}
use Rattle.sql_builder.specs.Phrases.{comma_list, in_brackets}
use Rattle.sql_parts.specs.Text.{join_with}
use Rattle.sql_builder.specs.declared.clauses.Kind.{Kind}
use Rattle.sql_builder.specs.declared.clauses.Kind.TheVariants.{SelectFrom, SelectValues, InsertInto, UpdateTable, DeleteFrom}

-- A clause in print: the words that open it, and what follows them.
pub record Section (A : Type 0) : Type 0 where
  pub opening : List ℕ
  pub body : List A

-- a clause that these words open
abbrev pub section : {A : Type 0} → List ℕ → List A → Section A
section opening body = record { opening = opening; body = body }

-- a clause that is there only where it has a text
abbrev pub optional_section : {A : Type 0} → List ℕ → Option (List A) → List (Section A)
optional_section opening None = []
optional_section opening (Some body) = section opening body ∷ []

-- how a query begins
abbrev pub select_opening : Bool → List ℕ
select_opening true = codes "SELECT DISTINCT "
select_opening false = codes "SELECT "

-- how a union begins, of all rows or of different ones
abbrev pub union_opening : Bool → List ℕ
union_opening true = codes " UNION ALL "
union_opening false = codes " UNION "

-- RETURNING, where something is returned
abbrev pub returning_sections : {A : Type 0} → Clauses (List A) → List (Section A)
returning_sections r = optional_section (codes " RETURNING ") r.returning

-- the unions in their order
abbrev pub union_sections : {A : Type 0} → List (Bool × List A) → List (Section A)
union_sections unions = map (λ union. section (union_opening union.0) union.1) unions

-- LIMIT and OFFSET, each where there is one
abbrev pub range_sections : {A : Type 0} → Clauses (List A) → List (Section A)
range_sections r = optional_section (codes " LIMIT ") r.limit ++ optional_section (codes " OFFSET ") r.offset

-- `word` gives the units of a text of the builder's own
module _ {A : Type 0} (word : List ℕ → List A) where
  -- the sections one after another
  abbrev pub concat_sections : List (Section A) → List A
  concat_sections sections = flat_map (λ s. word s.opening ++ s.body) sections

  -- a clause of a list, which is there only where the list has an item
  abbrev pub list_sections : List ℕ → List (List A) → List (Section A)
  list_sections opening [] = []
  list_sections opening (t ∷ ts) = section opening (comma_list word (t ∷ ts)) ∷ []

  -- the fields, or `*` where there are none
  abbrev pub fields_or_star : List (List A) → List A
  fields_or_star [] = word (codes "*")
  fields_or_star (f ∷ fs) = comma_list word (f ∷ fs)

  -- the table, and the joins behind it
  abbrev pub table_and_joins : List A → List (List A) → List A
  table_and_joins table joins = table ++ flat_map (λ join. word (codes " ") ++ join) joins

  -- one group is bare, several are in brackets with AND between them
  abbrev pub where_sections : List (List A) → List (Section A)
  where_sections [] = []
  where_sections (g ∷ []) = section (codes " WHERE ") g ∷ []
  where_sections (g ∷ h ∷ gs) =
      section (codes " WHERE ") (join_with (word (codes " AND ")) (map (in_brackets word) (g ∷ h ∷ gs))) ∷ []

  -- HAVING only follows GROUP BY
  abbrev pub group_by_sections : List (List A) → Option (List A) → List (Section A)
  group_by_sections [] having = []
  group_by_sections (t ∷ ts) having =
      section (codes " GROUP BY ") (comma_list word (t ∷ ts)) ∷ optional_section (codes " HAVING ") having

  -- ORDER BY is there only where there is no union
  abbrev pub order_by_sections : List (Bool × List A) → List (List A) → List (Section A)
  order_by_sections [] fields = list_sections (codes " ORDER BY ") fields
  order_by_sections (u ∷ us) fields = []

  -- a query of the table
  abbrev pub query_sections : Clauses (List A) → List (Section A)
  query_sections r =
      section (select_opening r.distinct) (fields_or_star r.fields)
      ∷ section (codes " FROM ") (table_and_joins r.table r.joins)
      ∷ (where_sections r.groups
      ++ (group_by_sections r.group_fields r.having
      ++ (union_sections r.unions ++ (order_by_sections r.unions r.order_fields ++ range_sections r))))

  -- a query of values without a table
  abbrev pub values_sections : Clauses (List A) → List (Section A)
  values_sections r = section (codes "SELECT ") (comma_list word r.fields) ∷ []

  -- the table that rows are inserted into, and its fields
  abbrev pub insert_target : Clauses (List A) → List A
  insert_target r = r.table ++ (word (codes " (") ++ (comma_list word r.fields ++ word (codes ")")))

  -- INSERT of rows, or of a query
  abbrev pub insert_sections : Option (List A) → Clauses (List A) → List (Section A)
  insert_sections None r =
      section (codes "INSERT INTO ") (insert_target r) ∷ section (codes " VALUES ") (comma_list word r.rows)
      ∷ returning_sections r
  insert_sections (Some query) r =
      section (codes "INSERT INTO ") (insert_target r ++ (word (codes " ") ++ query)) ∷ returning_sections r

  -- UPDATE
  abbrev pub update_sections : Clauses (List A) → List (Section A)
  update_sections r =
      section (codes "UPDATE ") r.table ∷ section (codes " SET ") (comma_list word r.sets)
      ∷ (where_sections r.groups ++ returning_sections r)

  -- DELETE
  abbrev pub delete_sections : Clauses (List A) → List (Section A)
  delete_sections r = section (codes "DELETE FROM ") r.table ∷ (where_sections r.groups ++ returning_sections r)

  -- the statement of each kind
  abbrev pub statement_sections : Kind → Clauses (List A) → List (Section A)
  statement_sections SelectFrom r = query_sections r
  statement_sections SelectValues r = values_sections r
  statement_sections InsertInto r = insert_sections r.query r
  statement_sections UpdateTable r = update_sections r
  statement_sections DeleteFrom r = delete_sections r

  -- what `sql` prints: the statement and `;`
  abbrev pub sql : Clauses (List A) → List A
  sql r = concat_sections (statement_sections r.kind r) ++ word (codes ";")

  -- what `query` prints
  abbrev pub query : Clauses (List A) → List A
  query r = concat_sections (query_sections r)

  -- what `query_values` prints
  abbrev pub query_values : Clauses (List A) → List A
  query_values r = concat_sections (values_sections r)

  -- what `subquery` prints: the query in brackets
  abbrev pub subquery : Clauses (List A) → List A
  subquery r = in_brackets word (query r)

  -- what `subquery_as` prints: the same under a name
  abbrev pub subquery_as : List A → Clauses (List A) → List A
  subquery_as name r = word (codes "(") ++ (query r ++ (word (codes ") AS ") ++ name))

-- the error of no table, else another
abbrev pub no_table_error : List ℕ → Option SqlBuilderError → Option SqlBuilderError
no_table_error [] other = Some NoTableName
no_table_error (byte ∷ bytes) other = other

-- this error, where a list is empty
abbrev pub empty_error : {T : Type 0} → SqlBuilderError → List T → Option SqlBuilderError
empty_error error [] = Some error
empty_error error (t ∷ ts) = None

-- an INSERT that has neither a query nor rows
abbrev pub no_rows_error : {T : Type 0} → Option T → List T → Option SqlBuilderError
no_rows_error None rows = empty_error NoValues rows
no_rows_error (Some query) rows = None

-- HAVING without a GROUP BY
abbrev pub no_group_by_error : {T : Type 0} → Option T → List T → Option SqlBuilderError
no_group_by_error None fields = None
no_group_by_error (Some having) fields = empty_error NoGroupBy fields

-- the error of a query
abbrev pub query_error : Clauses (List ℕ) → Option SqlBuilderError
query_error r = no_group_by_error r.having r.group_fields

-- the error of `sql` for a statement of each kind, no table first
abbrev pub error_of : Kind → Clauses (List ℕ) → Option SqlBuilderError
error_of SelectFrom r = no_table_error r.table (query_error r)
error_of SelectValues r = empty_error NoValues r.fields
error_of InsertInto r = no_table_error r.table (no_rows_error r.query r.rows)
error_of UpdateTable r = no_table_error r.table (empty_error NoSetFields r.sets)
error_of DeleteFrom r = no_table_error r.table None

-- the error of `sql`
abbrev pub sql_error : Clauses (List ℕ) → Option SqlBuilderError
sql_error r = error_of r.kind r

-- a text of bytes is its own units
abbrev pub byte_units : List ℕ → List ℕ
byte_units text = text
