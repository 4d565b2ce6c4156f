-- What a start, a list of calls and a finish say, each text as its bytes: each clause filters the whole list.
use Rattle.std.specs.Prelude.{ℕ, List, [], ◌∷◌, ◌++◌, Option, None, Some, Bool, true, false, map, codes, flat_map, filter_map, string_bytes}
use Rattle.std.specs.List.{list_any}
use Rattle.sql_builder.specs.Clauses.{Clauses}
use Rattle.sql_builder.specs.Condition.{ConditionText, condition_pieces, condition_raw_texts, condition_view}
use Rattle.sql_builder.specs.Filters.{any_unfollowed, cut, Group, in_place, last_given, since, until}
use Rattle.sql_builder.specs.Phrases.{constraint, count, count_as, equation, further_table, join, order, row}
use Rattle.sql_builder.specs.Pieces.{Pieces, fixed_piece, quoted_piece, raw_piece}
use Rattle.sql_parts.specs.Text.{join_with, texts}
use Rattle.sql_builder.specs.RawTexts.{RawText, Bare, Enclosed}
use Rattle.sql_builder.specs.declared.condition.Family.{Family}
use Rattle.sql_builder.specs.declared.condition.Family.TheVariants.{And, Or}
use Rattle.sql_builder.specs.declared.calls.Call.{Call}
use Rattle.sql_builder.specs.declared.calls.Call.TheVariants as call_case
use Rattle.sql_builder.specs.declared.calls.Finish.{Finish}
use Rattle.sql_builder.specs.declared.calls.Finish.TheVariants as finish_case
use Rattle.sql_builder.specs.declared.calls.Start.{Start}
use Rattle.sql_builder.specs.declared.calls.Start.TheVariants as start_case
use Rattle.sql_builder.specs.declared.calls.TableStart.{TableStart}
use Rattle.sql_builder.specs.declared.calls.TableStart.TheVariants as on_case
use Rattle.sql_builder.specs.declared.steps.BinaryClause.{BinaryClause}
use Rattle.sql_builder.specs.declared.steps.BinaryClause.TheVariants as binary
use Rattle.sql_builder.specs.declared.steps.NullaryClause.{NullaryClause}
use Rattle.sql_builder.specs.declared.steps.NullaryClause.TheVariants as nullary
use Rattle.sql_builder.specs.declared.steps.UnaryClause.{UnaryClause}
use Rattle.sql_builder.specs.declared.steps.UnaryClause.TheVariants as unary
use Rattle.sql_builder.specs.declared.steps.VariadicClause.{VariadicClause}
use Rattle.sql_builder.specs.declared.steps.VariadicClause.TheVariants as variadic
use Rattle.sql_builder.specs.declared.clauses.JoinOperator.{JoinOperator}
use Rattle.sql_builder.specs.declared.clauses.JoinOperator.TheVariants as operator
use Rattle.sql_builder.specs.declared.clauses.Kind.{Kind}
use Rattle.sql_builder.specs.declared.clauses.Kind.TheVariants as kind

-- How a list of calls begins.
pub data StartText : Type 0 where
  SelectFrom : List ℕ → StartText
  SelectValues : List (List ℕ) → StartText
  InsertInto : List ℕ → StartText
  UpdateTable : List ℕ → StartText
  DeleteFrom : List ℕ → StartText

-- A call that changes a builder.
pub data CallText : Type 0 where
  Natural : CallText
  Left : CallText
  LeftOuter : CallText
  Right : CallText
  RightOuter : CallText
  Inner : CallText
  Cross : CallText
  Distinct : CallText
  AndTable : List ℕ → CallText
  Join : List ℕ → CallText
  On : List ℕ → CallText
  OnEq : List ℕ → List ℕ → CallText
  Fields : List (List ℕ) → CallText
  SetFields : List (List ℕ) → CallText
  Field : List ℕ → CallText
  SetField : List ℕ → CallText
  Count : List ℕ → CallText
  CountAs : List ℕ → List ℕ → CallText
  SetTo : List ℕ → List ℕ → CallText
  SetStr : List ℕ → List ℕ → CallText
  Values : List (List ℕ) → CallText
  Select : List ℕ → CallText
  Returning : List ℕ → CallText
  ReturningId : CallText
  GroupBy : List ℕ → CallText
  Having : List ℕ → CallText
  Union : List ℕ → CallText
  UnionAll : List ℕ → CallText
  OrderBy : List ℕ → Bool → CallText
  OrderAsc : List ℕ → CallText
  OrderDesc : List ℕ → CallText
  Limit : List ℕ → CallText
  Offset : List ℕ → CallText
  Cond : Family → ConditionText → CallText

-- How a list of calls ends.
pub data FinishText : Type 0 where
  Sql : FinishText
  Query : FinishText
  QueryValues : FinishText
  Subquery : FinishText
  SubqueryAs : List ℕ → FinishText

-- ---- the arguments of `run`, each text as its bytes

-- a start, its texts as bytes
abbrev pub start_view : Start → StartText
start_view (start_case.SelectFrom table) = SelectFrom (string_bytes table)
start_view (start_case.SelectValues values) = SelectValues (texts values.items)
start_view (start_case.InsertInto table) = InsertInto (string_bytes table)
start_view (start_case.UpdateTable table) = UpdateTable (string_bytes table)
start_view (start_case.DeleteFrom table) = DeleteFrom (string_bytes table)

-- a start on this table
abbrev pub start_on : TableStart → List ℕ → StartText
start_on on_case.SelectFrom table = SelectFrom table
start_on on_case.InsertInto table = InsertInto table
start_on on_case.UpdateTable table = UpdateTable table
start_on on_case.DeleteFrom table = DeleteFrom table

-- a call, its texts as bytes
abbrev pub call_view : Call → CallText
call_view call_case.Natural = Natural
call_view call_case.Left = Left
call_view call_case.LeftOuter = LeftOuter
call_view call_case.Right = Right
call_view call_case.RightOuter = RightOuter
call_view call_case.Inner = Inner
call_view call_case.Cross = Cross
call_view call_case.Distinct = Distinct
call_view (call_case.AndTable table) = AndTable (string_bytes table)
call_view (call_case.Join table) = Join (string_bytes table)
call_view (call_case.On constraint) = On (string_bytes constraint)
call_view (call_case.OnEq left right) = OnEq (string_bytes left) (string_bytes right)
call_view (call_case.Fields fields) = Fields (texts fields.items)
call_view (call_case.SetFields fields) = SetFields (texts fields.items)
call_view (call_case.Field field) = Field (string_bytes field)
call_view (call_case.SetField field) = SetField (string_bytes field)
call_view (call_case.Count field) = Count (string_bytes field)
call_view (call_case.CountAs field name) = CountAs (string_bytes field) (string_bytes name)
call_view (call_case.SetTo field value) = SetTo (string_bytes field) (string_bytes value)
call_view (call_case.SetStr field value) = SetStr (string_bytes field) (string_bytes value)
call_view (call_case.Values values) = Values (texts values.items)
call_view (call_case.Select query) = Select (string_bytes query)
call_view (call_case.Returning fields) = Returning (string_bytes fields)
call_view call_case.ReturningId = ReturningId
call_view (call_case.GroupBy field) = GroupBy (string_bytes field)
call_view (call_case.Having condition) = Having (string_bytes condition)
call_view (call_case.Union query) = Union (string_bytes query)
call_view (call_case.UnionAll query) = UnionAll (string_bytes query)
call_view (call_case.OrderBy field descending) = OrderBy (string_bytes field) descending
call_view (call_case.OrderAsc field) = OrderAsc (string_bytes field)
call_view (call_case.OrderDesc field) = OrderDesc (string_bytes field)
call_view (call_case.Limit limit) = Limit (string_bytes limit)
call_view (call_case.Offset offset) = Offset (string_bytes offset)
call_view (call_case.Cond family condition) = Cond family (condition_view condition)

-- a finish, its text as bytes
abbrev pub finish_view : Finish → FinishText
finish_view finish_case.Sql = Sql
finish_view finish_case.Query = Query
finish_view finish_case.QueryValues = QueryValues
finish_view finish_case.Subquery = Subquery
finish_view (finish_case.SubqueryAs name) = SubqueryAs (string_bytes name)

-- what f says of a start, calls and a finish, each as its texts
abbrev pub of_list {ℓ} : {X : Type ℓ} → (StartText → List CallText → FinishText → X) → Start → List Call → Finish → X
of_list f start calls finish = f (start_view start) (map call_view calls) (finish_view finish)

-- ---- the calls of a clause that a constant names

-- a call without a text
abbrev pub nullary_call : NullaryClause → CallText
nullary_call nullary.Natural = Natural
nullary_call nullary.Left = Left
nullary_call nullary.LeftOuter = LeftOuter
nullary_call nullary.Right = Right
nullary_call nullary.RightOuter = RightOuter
nullary_call nullary.Inner = Inner
nullary_call nullary.Cross = Cross
nullary_call nullary.Distinct = Distinct
nullary_call nullary.ReturningId = ReturningId

-- a call with one text
abbrev pub unary_call : UnaryClause → List ℕ → CallText
unary_call unary.AndTable table = AndTable table
unary_call unary.Join table = Join table
unary_call unary.On constraint = On constraint
unary_call unary.Field field = Field field
unary_call unary.SetField field = SetField field
unary_call unary.Count field = Count field
unary_call unary.Select query = Select query
unary_call unary.Returning fields = Returning fields
unary_call unary.GroupBy field = GroupBy field
unary_call unary.Having condition = Having condition
unary_call unary.Union query = Union query
unary_call unary.UnionAll query = UnionAll query
unary_call unary.OrderAsc field = OrderAsc field
unary_call unary.OrderDesc field = OrderDesc field
unary_call unary.Limit limit = Limit limit
unary_call unary.Offset offset = Offset offset

-- a call with two texts
abbrev pub binary_call : BinaryClause → List ℕ → List ℕ → CallText
binary_call binary.OnEq left right = OnEq left right
binary_call binary.CountAs field name = CountAs field name
binary_call binary.SetTo field value = SetTo field value
binary_call binary.SetStr field value = SetStr field value

-- a call with a list of texts
abbrev pub variadic_call : VariadicClause → List (List ℕ) → CallText
variadic_call variadic.Fields fields = Fields fields
variadic_call variadic.SetFields fields = SetFields fields
variadic_call variadic.Values values = Values values

-- ---- the raw texts of calls, by where they are printed

-- the texts of a start
abbrev pub start_raw_texts : StartText → List RawText
start_raw_texts (SelectFrom table) = Bare table ∷ []
start_raw_texts (SelectValues values) = map Bare values
start_raw_texts (InsertInto table) = Bare table ∷ []
start_raw_texts (UpdateTable table) = Bare table ∷ []
start_raw_texts (DeleteFrom table) = Bare table ∷ []

-- a field, which `sql` of an INSERT encloses
abbrev pub field_text : Bool → List ℕ → RawText
field_text true field = Enclosed field
field_text false field = Bare field

-- the texts of a call, where fields are enclosed or not
abbrev pub call_raw_texts : Bool → CallText → List RawText
call_raw_texts enclosed (AndTable table) = Bare table ∷ []
call_raw_texts enclosed (Join table) = Bare table ∷ []
call_raw_texts enclosed (On text) = Bare text ∷ []
call_raw_texts enclosed (OnEq left right) = Bare left ∷ Bare right ∷ []
call_raw_texts enclosed (Fields fields) = map (field_text enclosed) fields
call_raw_texts enclosed (SetFields fields) = map (field_text enclosed) fields
call_raw_texts enclosed (Field field) = field_text enclosed field ∷ []
call_raw_texts enclosed (SetField field) = field_text enclosed field ∷ []
call_raw_texts enclosed (Count field) = Enclosed field ∷ []
call_raw_texts enclosed (CountAs field name) = Enclosed field ∷ field_text enclosed name ∷ []
call_raw_texts enclosed (SetTo field value) = Bare field ∷ Bare value ∷ []
call_raw_texts enclosed (SetStr field value) = Bare field ∷ []
call_raw_texts enclosed (Values values) = map Enclosed values
call_raw_texts enclosed (Select query) = Bare query ∷ []
call_raw_texts enclosed (Returning fields) = Bare fields ∷ []
call_raw_texts enclosed (GroupBy field) = Bare field ∷ []
call_raw_texts enclosed (Having condition) = Bare condition ∷ []
call_raw_texts enclosed (Cond family condition) = condition_raw_texts condition
call_raw_texts enclosed (Union query) = Enclosed query ∷ []
call_raw_texts enclosed (UnionAll query) = Enclosed query ∷ []
call_raw_texts enclosed (OrderBy field descending) = Bare field ∷ []
call_raw_texts enclosed (OrderAsc field) = Bare field ∷ []
call_raw_texts enclosed (OrderDesc field) = Bare field ∷ []
call_raw_texts enclosed (Limit limit) = Bare limit ∷ []
call_raw_texts enclosed (Offset offset) = Bare offset ∷ []
call_raw_texts enclosed _ = []

-- the text of a finish, a name behind the brackets
abbrev pub finish_raw_texts : FinishText → List RawText
finish_raw_texts (SubqueryAs name) = Bare name ∷ []
finish_raw_texts _ = []

-- ---- what the calls make

-- the kind of statement that a start begins
abbrev pub kind_of : StartText → Kind
kind_of (SelectFrom table) = kind.SelectFrom
kind_of (SelectValues values) = kind.SelectValues
kind_of (InsertInto table) = kind.InsertInto
kind_of (UpdateTable table) = kind.UpdateTable
kind_of (DeleteFrom table) = kind.DeleteFrom

-- the table that a start names
abbrev pub start_table : StartText → Pieces
start_table (SelectFrom table) = raw_piece table
start_table (SelectValues values) = []
start_table (InsertInto table) = raw_piece table
start_table (UpdateTable table) = raw_piece table
start_table (DeleteFrom table) = raw_piece table

-- the table that a call adds
abbrev pub table_in : CallText → Pieces
table_in (AndTable table) = further_table fixed_piece (raw_piece table)
table_in _ = []

-- the start's table with every table that is added
abbrev pub table_of : StartText → List CallText → Pieces
table_of start calls = start_table start ++ flat_map table_in calls

-- the operator that a call chooses
abbrev pub operator_in : CallText → Option JoinOperator
operator_in Left = Some operator.Left
operator_in LeftOuter = Some operator.LeftOuter
operator_in Right = Some operator.Right
operator_in RightOuter = Some operator.RightOuter
operator_in Inner = Some operator.Inner
operator_in Cross = Some operator.Cross
operator_in _ = None

-- the operator that was chosen last
abbrev pub operator_of : List CallText → Option JoinOperator
operator_of calls = last_given operator_in calls

-- whether a call is `natural`
abbrev pub is_natural : CallText → Bool
is_natural Natural = true
is_natural _ = false

-- whether a call is a join
abbrev pub is_join : CallText → Bool
is_join (Join table) = true
is_join _ = false

-- whether `natural` was called, and no join after it
abbrev pub natural_of : List CallText → Bool
natural_of calls = any_unfollowed is_natural is_join calls

-- the constraint that a call adds to the join before it
abbrev pub constraint_in : CallText → Pieces
constraint_in (On text) = constraint fixed_piece (raw_piece text)
constraint_in (OnEq left right) =
    constraint fixed_piece (equation fixed_piece (raw_piece left) (raw_piece right))
constraint_in _ = []

-- a join as the calls before it chose, without its constraints
abbrev pub join_after : List CallText → List ℕ → Pieces
join_after before table = join fixed_piece (natural_of before) (operator_of before) (raw_piece table)

-- a join with the constraints before the next one
abbrev pub join_in : List CallText → CallText → List CallText → List Pieces
join_in before (Join table) after =
    (join_after before table ++ flat_map constraint_in (until is_join after)) ∷ []
join_in before _ after = []

-- the joins in their order
abbrev pub joins_of : List CallText → List Pieces
joins_of calls = in_place join_in [] calls

-- whether a call is `distinct`
abbrev pub is_distinct : CallText → Bool
is_distinct Distinct = true
is_distinct _ = false

-- the fields that a call appends or sets
abbrev pub fields_in : CallText → List Pieces
fields_in (Fields fields) = map raw_piece fields
fields_in (SetFields fields) = map raw_piece fields
fields_in (Field field) = raw_piece field ∷ []
fields_in (SetField field) = raw_piece field ∷ []
fields_in (Count field) = count fixed_piece (raw_piece field) ∷ []
fields_in (CountAs field name) = count_as fixed_piece (raw_piece field) (raw_piece name) ∷ []
fields_in _ = []

-- whether a call drops the fields before it
abbrev pub drops_fields : CallText → Bool
drops_fields (SetFields fields) = true
drops_fields (SetField field) = true
drops_fields _ = false

-- the fields that a start begins with
abbrev pub start_fields : StartText → List (List ℕ)
start_fields (SelectValues values) = values
start_fields _ = []

-- the fields since the last call that drops those before it; the start's come first
abbrev pub fields_of : StartText → List CallText → List Pieces
fields_of start calls = flat_map fields_in (since drops_fields (SetFields (start_fields start) ∷ calls))

-- what a call sets
abbrev pub sets_in : CallText → List Pieces
sets_in (SetTo field value) = equation fixed_piece (raw_piece field) (raw_piece value) ∷ []
sets_in (SetStr field value) = equation fixed_piece (raw_piece field) (quoted_piece value) ∷ []
sets_in _ = []

-- the row that a call adds
abbrev pub rows_in : CallText → List Pieces
rows_in (Values values) = row fixed_piece (map raw_piece values) ∷ []
rows_in _ = []

-- whether a call adds a row
abbrev pub is_values : CallText → Bool
is_values (Values values) = true
is_values _ = false

-- the query that a call gives
abbrev pub query_in : CallText → Option Pieces
query_in (Select query) = Some (raw_piece query)
query_in _ = None

-- whether a call gives a query
abbrev pub is_select : CallText → Bool
is_select (Select query) = true
is_select _ = false

-- the rows since the last query
abbrev pub rows_of : List CallText → List Pieces
rows_of calls = flat_map rows_in (since is_select calls)

-- the last query since the last row
abbrev pub query_of : List CallText → Option Pieces
query_of calls = last_given query_in (since is_values calls)

-- what a call returns
abbrev pub returning_in : CallText → Option Pieces
returning_in (Returning fields) = Some (raw_piece fields)
returning_in ReturningId = Some (fixed_piece (codes "id"))
returning_in _ = None

-- what a call groups by
abbrev pub group_fields_in : CallText → List Pieces
group_fields_in (GroupBy field) = raw_piece field ∷ []
group_fields_in _ = []

-- the condition of HAVING that a call gives
abbrev pub having_in : CallText → Option Pieces
having_in (Having condition) = Some (raw_piece condition)
having_in _ = None

-- the condition that a call adds, and its family
abbrev pub condition_in : CallText → Option (Family × ConditionText)
condition_in (Cond family condition) = Some (family, condition)
condition_in _ = None

-- whether a condition opens a group
abbrev pub opens_group : Family × ConditionText → Bool
opens_group (And, condition) = true
opens_group (Or, condition) = false

-- the conditions of a group without their families
abbrev pub conditions_of : Group (Family × ConditionText) → Group ConditionText
conditions_of group = (group.0.1, map (λ c. c.1) group.1)

-- the conditions of all calls in order, cut before each that opens a group
abbrev pub groups : List CallText → List (Group ConditionText)
groups calls = map conditions_of (cut opens_group (filter_map condition_in calls))

-- the conditions of a group joined by OR
abbrev pub group_pieces : Group ConditionText → Pieces
group_pieces group = join_with (fixed_piece (codes " OR ")) (map condition_pieces (group.0 ∷ group.1))

-- the union that a call adds, and whether it is of all rows
abbrev pub unions_in : CallText → List (Bool × Pieces)
unions_in (Union query) = (false, raw_piece query) ∷ []
unions_in (UnionAll query) = (true, raw_piece query) ∷ []
unions_in _ = []

-- what a call orders by
abbrev pub order_fields_in : CallText → List Pieces
order_fields_in (OrderBy field descending) = order fixed_piece descending (raw_piece field) ∷ []
order_fields_in (OrderAsc field) = order fixed_piece false (raw_piece field) ∷ []
order_fields_in (OrderDesc field) = order fixed_piece true (raw_piece field) ∷ []
order_fields_in _ = []

-- the limit that a call gives
abbrev pub limit_in : CallText → Option Pieces
limit_in (Limit limit) = Some (raw_piece limit)
limit_in _ = None

-- the offset that a call gives
abbrev pub offset_in : CallText → Option Pieces
offset_in (Offset offset) = Some (raw_piece offset)
offset_in _ = None

-- the clauses that a start and the calls after it make
abbrev pub clauses : StartText → List CallText → Clauses Pieces
clauses start calls = record {
  kind = kind_of start;
  table = table_of start calls;
  joins = joins_of calls;
  operator = operator_of calls;
  natural = natural_of calls;
  distinct = list_any is_distinct calls;
  fields = fields_of start calls;
  sets = flat_map sets_in calls;
  rows = rows_of calls;
  query = query_of calls;
  returning = last_given returning_in calls;
  group_fields = flat_map group_fields_in calls;
  having = last_given having_in calls;
  groups = map group_pieces (groups calls);
  unions = flat_map unions_in calls;
  order_fields = flat_map order_fields_in calls;
  limit = last_given limit_in calls;
  offset = last_given offset_in calls;
}
