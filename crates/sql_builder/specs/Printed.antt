-- The bytes of the clauses as they are printed, each as the layout has it.
use Rattle.std.specs.Prelude.{ℕ, List, [], Option, None, Some, Bool, true, false, codes, if◌then◌else◌, flat_map, ◌++◌}
use Rattle.sql_builder.specs.Builder.{ClauseTexts}
use Rattle.sql_builder.specs.Phrases.{comma_list}
use Rattle.sql_builder.specs.Layout.{byte_units, concat_sections, fields_or_star, group_by_sections, insert_sections, optional_section, order_by_sections}
use Rattle.sql_builder.specs.Layout.{select_opening, statement_sections, union_opening, update_sections, delete_sections, where_sections}

-- a text behind its words, where there is one
abbrev pub optional_bytes : List ℕ → Option (List ℕ) → List ℕ
optional_bytes words text = concat_sections byte_units (optional_section words text)

-- the joins
abbrev pub join_bytes : List (List ℕ) → List ℕ
join_bytes joins = flat_map (λ join. codes " " ++ join) joins

-- a condition behind the first, with whether it opens a group
abbrev pub further_condition : Bool × List ℕ → List ℕ
further_condition c = (if c.0 then codes ") AND (" else codes " OR ") ++ c.1

-- the conditions behind the first
abbrev pub further_bytes : List (Bool × List ℕ) → List ℕ
further_bytes conditions = flat_map further_condition conditions

-- what is in front of the first condition and behind the last, where a further one opens a group and where none does
abbrev pub where_opening : Bool → List ℕ
where_opening true = codes " WHERE ("
where_opening false = codes " WHERE "

abbrev pub where_end : Bool → List ℕ
where_end true = codes ")"
where_end false = []

-- WHERE
abbrev pub where_bytes : List (List ℕ) → List ℕ
where_bytes groups = concat_sections byte_units (where_sections byte_units groups)

-- GROUP BY, and HAVING behind it
abbrev pub group_by_bytes : List (List ℕ) → Option (List ℕ) → List ℕ
group_by_bytes fields having = concat_sections byte_units (group_by_sections byte_units fields having)

-- ORDER BY
abbrev pub order_by_bytes : List (Bool × List ℕ) → List (List ℕ) → List ℕ
order_by_bytes unions fields = concat_sections byte_units (order_by_sections byte_units unions fields)

-- what precedes the conditions of a query
abbrev pub query_start : ClauseTexts → List ℕ
query_start r = (select_opening r.distinct ++ fields_or_star byte_units r.fields) ++ ((codes " FROM " ++ r.table) ++ join_bytes r.joins)

-- what follows them
abbrev pub query_end : ClauseTexts → List ℕ
query_end r = group_by_bytes r.group_fields r.having
    ++ (flat_map (λ union. union_opening union.0 ++ union.1) r.unions
    ++ (order_by_bytes r.unions r.order_fields
    ++ (optional_bytes (codes " LIMIT ") r.limit ++ optional_bytes (codes " OFFSET ") r.offset)))

-- what an INSERT inserts, its query or its rows, behind the bracket that closes its fields
abbrev pub inserted_bytes : Option (List ℕ) → List (List ℕ) → List ℕ
inserted_bytes None rows = codes ") VALUES " ++ comma_list byte_units rows
inserted_bytes (Some query) rows = codes ") " ++ query

-- an INSERT
abbrev pub insert_bytes : ClauseTexts → List ℕ
insert_bytes r = concat_sections byte_units (insert_sections byte_units r.query r)

-- an UPDATE
abbrev pub update_bytes : ClauseTexts → List ℕ
update_bytes r = concat_sections byte_units (update_sections byte_units r)

-- a DELETE
abbrev pub delete_bytes : ClauseTexts → List ℕ
delete_bytes r = concat_sections byte_units (delete_sections byte_units r)

-- the statement, without the semicolon at its end
abbrev pub statement_bytes : ClauseTexts → List ℕ
statement_bytes r = concat_sections byte_units (statement_sections byte_units r.kind r)
