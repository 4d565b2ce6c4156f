-- The names that a line may begin with: what each means, by how many arguments it takes, and the conditions that some of them add.
use Rattle.std.specs.Prelude.{ℕ, List, [], ◌∷◌, Option, Some, None, true, false, bytes_eq, codes, drop, find, if◌then◌else◌, length, option_map, take}
use Rattle.std.specs.Option.{option_and_then, option_or}
use Rattle.sql_builder.specs.declared.condition.Condition.TheVariants as condition
use Rattle.sql_builder.specs.Condition.{ConditionText}
use Rattle.sql_builder.specs.declared.calls.TableStart.TheVariants as start
use Rattle.sql_builder.specs.declared.condition.Family.{Family}
use Rattle.sql_builder.specs.declared.condition.Family.TheVariants.{And, Or}
use Rattle.sql_builder.specs.declared.condition.Percent.TheVariants as percent
use Rattle.sql_builder.specs.declared.condition.Relation.TheVariants as relation
use Rattle.sql_builder.specs.declared.steps.BinaryClause.TheVariants as binary
use Rattle.sql_builder.specs.declared.steps.NullaryClause.TheVariants as nullary
use Rattle.sql_builder.specs.declared.steps.UnaryClause.TheVariants as unary
use Rattle.sql_builder.specs.declared.steps.VariadicClause.TheVariants as variadic
use Rattle.sqlb.specs.declared.names.ConditionKind.{ConditionKind}
use Rattle.sqlb.specs.declared.names.ConditionKind.TheVariants.{Raw, IsNull, IsNotNull, Compare, Like, InList, InQuoted, InQuery, Between}
use Rattle.sqlb.specs.declared.names.NamedCall.{NamedCall}
use Rattle.sqlb.specs.declared.names.NamedCall.TheVariants as named
use Rattle.sqlb.specs.declared.names.Printing.TheVariants as printing

-- what is beside a name in a table, if the table has it
abbrev pub found_in : {M : Type 0} → List (List ℕ × M) → List ℕ → Option M
found_in table name = option_map (λ entry. entry.1) (find (λ entry. bytes_eq name entry.0) table)

-- the names that take no argument, and what each means
unfoldable pub nullaries : List (List ℕ × NamedCall)
nullaries =
    (codes "natural", named.Nullary nullary.Natural) ∷
    (codes "left", named.Nullary nullary.Left) ∷
    (codes "left_outer", named.Nullary nullary.LeftOuter) ∷
    (codes "right", named.Nullary nullary.Right) ∷
    (codes "right_outer", named.Nullary nullary.RightOuter) ∷
    (codes "inner", named.Nullary nullary.Inner) ∷
    (codes "cross", named.Nullary nullary.Cross) ∷
    (codes "distinct", named.Nullary nullary.Distinct) ∷
    (codes "returning_id", named.Nullary nullary.ReturningId) ∷
    (codes "sql", named.Prints printing.Sql) ∷
    (codes "query", named.Prints printing.Query) ∷
    (codes "query_values", named.Prints printing.QueryValues) ∷
    (codes "subquery", named.Prints printing.Subquery) ∷
    []

-- those that open a statement, and those of tables and joins
unfoldable pub tables : List (List ℕ × NamedCall)
tables =
    (codes "select_from", named.Start start.SelectFrom) ∷
    (codes "insert_into", named.Start start.InsertInto) ∷
    (codes "update_table", named.Start start.UpdateTable) ∷
    (codes "delete_from", named.Start start.DeleteFrom) ∷
    (codes "select_values", named.SelectValues) ∷
    (codes "and_table", named.Unary unary.AndTable) ∷
    (codes "join", named.Unary unary.Join) ∷
    (codes "on", named.Unary unary.On) ∷
    (codes "on_eq", named.Binary binary.OnEq) ∷
    []

-- those of what is selected, set, inserted and returned: fields, values and rows
unfoldable pub lists : List (List ℕ × NamedCall)
lists =
    (codes "field", named.Unary unary.Field) ∷
    (codes "fields", named.Variadic variadic.Fields) ∷
    (codes "set_field", named.Unary unary.SetField) ∷
    (codes "set_fields", named.Variadic variadic.SetFields) ∷
    (codes "count", named.Unary unary.Count) ∷
    (codes "count_as", named.Binary binary.CountAs) ∷
    (codes "set", named.Binary binary.SetTo) ∷
    (codes "set_str", named.Binary binary.SetStr) ∷
    (codes "values", named.Variadic variadic.Values) ∷
    (codes "select", named.Unary unary.Select) ∷
    (codes "returning", named.Unary unary.Returning) ∷
    []

-- those of what ends a statement: groups, order, limits, unions and subqueries
unfoldable pub ends : List (List ℕ × NamedCall)
ends =
    (codes "group_by", named.Unary unary.GroupBy) ∷
    (codes "having", named.Unary unary.Having) ∷
    (codes "order_by", named.OrderBy) ∷
    (codes "order_asc", named.Unary unary.OrderAsc) ∷
    (codes "order_desc", named.Unary unary.OrderDesc) ∷
    (codes "limit", named.Unary unary.Limit) ∷
    (codes "offset", named.Unary unary.Offset) ∷
    (codes "union", named.Unary unary.Union) ∷
    (codes "union_all", named.Unary unary.UnionAll) ∷
    (codes "subquery_as", named.SubqueryAs) ∷
    []

-- the endings of a condition by itself, of NULL, and of comparisons, and what each adds, but for its texts
unfoldable pub comparisons : List (List ℕ × ConditionKind)
comparisons =
    (codes "", Raw) ∷
    (codes "_is_null", IsNull) ∷
    (codes "_is_not_null", IsNotNull) ∷
    (codes "_eq", Compare relation.Eq) ∷
    (codes "_ne", Compare relation.Ne) ∷
    (codes "_gt", Compare relation.Gt) ∷
    (codes "_ge", Compare relation.Ge) ∷
    (codes "_lt", Compare relation.Lt) ∷
    (codes "_le", Compare relation.Le) ∷
    []

-- those of LIKE
unfoldable pub likes : List (List ℕ × ConditionKind)
likes =
    (codes "_like", Like false percent.Plain) ∷
    (codes "_like_right", Like false percent.Right) ∷
    (codes "_like_left", Like false percent.Left) ∷
    (codes "_like_any", Like false percent.Any) ∷
    (codes "_not_like", Like true percent.Plain) ∷
    (codes "_not_like_right", Like true percent.Right) ∷
    (codes "_not_like_left", Like true percent.Left) ∷
    (codes "_not_like_any", Like true percent.Any) ∷
    []

-- those of IN and BETWEEN
unfoldable pub memberships : List (List ℕ × ConditionKind)
memberships =
    (codes "_in", InList false) ∷
    (codes "_in_quoted", InQuoted false) ∷
    (codes "_in_query", InQuery false) ∷
    (codes "_between", Between false) ∷
    (codes "_not_in", InList true) ∷
    (codes "_not_in_quoted", InQuoted true) ∷
    (codes "_not_in_query", InQuery true) ∷
    (codes "_not_between", Between true) ∷
    []

-- the kind of condition that an ending names; endings are compared exactly
unfoldable pub condition_kind : List ℕ → Option ConditionKind
condition_kind ending =
    option_or (found_in comparisons ending)
    (option_or (found_in likes ending) (found_in memberships ending))

-- the condition that a kind makes of its arguments, if they fit
abbrev pub condition_of : ConditionKind → List (List ℕ) → Option ConditionText
condition_of Raw (text ∷ []) = Some (condition.Raw text)
condition_of IsNull (field ∷ []) = Some (condition.IsNull field)
condition_of IsNotNull (field ∷ []) = Some (condition.IsNotNull field)
condition_of (Compare relation) (field ∷ value ∷ []) = Some (condition.Compare relation field value)
condition_of (Like negated percent) (field ∷ mask ∷ []) = Some (condition.Like negated percent field mask)
condition_of (InList negated) (field ∷ values) = Some (condition.InList negated field values)
condition_of (InQuoted negated) (field ∷ values) = Some (condition.InQuoted negated field values)
condition_of (InQuery negated) (field ∷ query ∷ []) = Some (condition.InQuery negated field query)
condition_of (Between negated) (field ∷ least ∷ greatest ∷ []) = Some (condition.Between negated field least greatest)
condition_of _ _ = None

-- what follows a prefix in a name, if the name begins with it
abbrev pub without_prefix : List ℕ → List ℕ → Option (List ℕ)
without_prefix prefix name = if bytes_eq (take (length prefix) name) prefix then Some (drop (length prefix) name) else None

-- the family whose prefix a name begins with, and what follows that; no name begins with both
abbrev pub either_family : Option (List ℕ) → Option (List ℕ) → Option (Family × List ℕ)
either_family and_where or_where = option_or (option_map (λ ending. (And, ending)) and_where) (option_map (λ ending. (Or, ending)) or_where)

abbrev pub split_family : List ℕ → Option (Family × List ℕ)
split_family name = either_family (without_prefix (codes "and_where") name) (without_prefix (codes "or_where") name)

-- the call that adds a condition, where the name is the prefix of a family and an ending
abbrev pub condition_call : List ℕ → Option NamedCall
condition_call name = option_and_then (λ parts. option_map (λ kind. named.Where parts.0 kind) (condition_kind parts.1)) (split_family name)

-- the call of a name: `and_where` or `or_where` with an ending, or one of the tables; names are compared exactly
unfoldable pub call_named : List ℕ → Option NamedCall
call_named name =
    option_or (condition_call name)
    (option_or (found_in nullaries name)
    (option_or (found_in tables name)
    (option_or (found_in lists name) (found_in ends name))))
