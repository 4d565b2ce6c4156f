-- What a call makes of a builder's clauses, each text as its bytes.
use Rattle.std.specs.Prelude.{ℕ, List, [], ◌∷◌, ◌++◌, None, Some, Bool, true, false, codes, map, string_bytes}
use Rattle.sql_parts.specs.Error.{IsMemory}
use Rattle.sql_parts.specs.declared.error.SqlBuilderError.{SqlBuilderError}
use Rattle.sql_builder.specs.Calls as call
use Rattle.sql_builder.specs.Calls.{CallText, StartText, binary_call, kind_of, nullary_call, unary_call, variadic_call}
use Rattle.sql_builder.specs.Clauses.{Clauses, new_clauses}
use Rattle.sql_builder.specs.Layout.{byte_units}
use Rattle.sql_builder.specs.Phrases.{constraint, count, count_as, equation, further_table, join, order, row}
use Rattle.sql_builder.specs.declared.condition.Family.{Family}
use Rattle.sql_builder.specs.declared.condition.Family.TheVariants.{And, Or}
use Rattle.sql_builder.specs.Condition.{ConditionText, condition_bytes}
use Rattle.sql_builder.specs.Filters.{cut}
use Rattle.sql_parts.specs.Quoting.{quoted}
use Rattle.sql_parts.specs.Text.{join_with}
use Rattle.sql_builder.specs.declared.clauses.GroupedCondition.{GroupedCondition}
use Rattle.sql_builder.specs.declared.clauses.JoinOperator.{JoinOperator}
use Rattle.sql_builder.specs.declared.clauses.JoinOperator.TheVariants as operator
use Rattle.sql_builder.specs.declared.steps.BinaryClause.{BinaryClause}
use Rattle.sql_builder.specs.declared.steps.BinaryClause.TheVariants as binary
use Rattle.sql_builder.specs.declared.steps.NullaryClause.{NullaryClause}
use Rattle.sql_builder.specs.declared.steps.NullaryClause.TheVariants as nullary
use Rattle.sql_builder.specs.declared.steps.UnaryClause.{UnaryClause}
use Rattle.sql_builder.specs.declared.steps.UnaryClause.TheVariants as unary
use Rattle.sql_builder.specs.declared.steps.VariadicClause.{VariadicClause}

-- a builder's clauses, each text as its bytes
abbrev pub ClauseTexts : Type 0
ClauseTexts = Clauses (List ℕ)

-- a condition, and whether it opens a group
abbrev pub condition_in_group : GroupedCondition → Bool × List ℕ
condition_in_group condition = (condition.opens_group, string_bytes condition.text)

-- the texts of the groups: the conditions are cut before each that opens a group, and those of a group joined by OR
abbrev pub group_texts : List GroupedCondition → List (List ℕ)
group_texts conditions =
    map (λ group. join_with (codes " OR ") (map (λ c. c.1) (group.0 ∷ group.1)))
    (cut (λ c. c.0) (map condition_in_group conditions))

-- the last list goes on with t, where there is a list
abbrev pub extend_last : {A : Type 0} → List A → List (List A) → List (List A)
extend_last t [] = []
extend_last t (x ∷ []) = (x ++ t) ∷ []
extend_last t (x ∷ y ∷ xs) = x ∷ extend_last t (y ∷ xs)

-- the clauses of a builder that has made no call
abbrev pub started : StartText → ClauseTexts
started start = new_clauses (kind_of start) (table start) (call.start_fields start)
  where
    table : StartText → List ℕ
    table (call.SelectFrom name) = name
    table (call.SelectValues values) = []
    table (call.InsertInto name) = name
    table (call.UpdateTable name) = name
    table (call.DeleteFrom name) = name

-- the next join is NATURAL
abbrev pub with_natural : ClauseTexts → ClauseTexts
with_natural r = record r { natural = true }

-- the operator of the joins to come
abbrev pub with_operator : JoinOperator → ClauseTexts → ClauseTexts
with_operator operator r = record r { operator = Some operator }

-- equal rows are selected once
abbrev pub with_distinct : ClauseTexts → ClauseTexts
with_distinct r = record r { distinct = true }

-- a further table
abbrev pub with_table : List ℕ → ClauseTexts → ClauseTexts
with_table table r = record r { table = r.table ++ further_table byte_units table }

-- a join as was chosen; it ends a waiting NATURAL
abbrev pub with_join : List ℕ → ClauseTexts → ClauseTexts
with_join table r =
    record r { joins = r.joins ++ join byte_units r.natural r.operator table ∷ []; natural = false }

-- a constraint of the last join; where there is none, nothing changes
abbrev pub with_on : List ℕ → ClauseTexts → ClauseTexts
with_on text r = record r { joins = extend_last (constraint byte_units text) r.joins }

-- these fields, after those that are there
abbrev pub with_fields : List (List ℕ) → ClauseTexts → ClauseTexts
with_fields fields r = record r { fields = r.fields ++ fields }

-- these fields alone
abbrev pub with_fields_set : List (List ℕ) → ClauseTexts → ClauseTexts
with_fields_set fields r = record r { fields = fields }

-- one more thing that UPDATE sets
abbrev pub with_set : List ℕ → ClauseTexts → ClauseTexts
with_set equation r = record r { sets = r.sets ++ equation ∷ [] }

-- one more row, and no query
abbrev pub with_row : List (List ℕ) → ClauseTexts → ClauseTexts
with_row values r = record r { rows = r.rows ++ row byte_units values ∷ []; query = None }

-- a query, and no rows
abbrev pub with_query : List ℕ → ClauseTexts → ClauseTexts
with_query query r = record r { rows = []; query = Some query }

-- what is returned
abbrev pub with_returning : List ℕ → ClauseTexts → ClauseTexts
with_returning fields r = record r { returning = Some fields }

-- one more field to group by
abbrev pub with_group_field : List ℕ → ClauseTexts → ClauseTexts
with_group_field field r = record r { group_fields = r.group_fields ++ field ∷ [] }

-- the condition of HAVING
abbrev pub with_having : List ℕ → ClauseTexts → ClauseTexts
with_having condition r = record r { having = Some condition }

-- one more union, of all rows or of different ones
abbrev pub with_union : Bool → List ℕ → ClauseTexts → ClauseTexts
with_union all query r = record r { unions = r.unions ++ (all, query) ∷ [] }

-- one more field to order by, which may be descending
abbrev pub with_order : Bool → List ℕ → ClauseTexts → ClauseTexts
with_order descending field r =
    record r { order_fields = r.order_fields ++ order byte_units descending field ∷ [] }

-- the limit
abbrev pub with_limit : List ℕ → ClauseTexts → ClauseTexts
with_limit limit r = record r { limit = Some limit }

-- the offset
abbrev pub with_offset : List ℕ → ClauseTexts → ClauseTexts
with_offset offset r = record r { offset = Some offset }

-- a condition that opens a group of its own
abbrev pub with_group : List ℕ → ClauseTexts → ClauseTexts
with_group condition r = record r { groups = r.groups ++ condition ∷ [] }

-- a condition that joins the last group by OR, and opens one where there is none
abbrev pub join_last : {A : Type 0} → List A → List A → List (List A) → List (List A)
join_last or condition [] = condition ∷ []
join_last or condition (group ∷ groups) = extend_last (or ++ condition) (group ∷ groups)

-- the same of the groups of a builder
abbrev pub with_alternative : List ℕ → ClauseTexts → ClauseTexts
with_alternative condition r = record r { groups = join_last (codes " OR ") condition r.groups }

-- a condition's text, of a call of this family
abbrev pub with_condition_bytes : Family → List ℕ → ClauseTexts → ClauseTexts
with_condition_bytes And condition r = with_group condition r
with_condition_bytes Or condition r = with_alternative condition r

-- a condition, of a call of this family
abbrev pub with_condition : Family → ConditionText → ClauseTexts → ClauseTexts
with_condition family condition r = with_condition_bytes family (condition_bytes condition) r

-- there is a join that a constraint can join
abbrev pub HasJoin : ClauseTexts → Type 0
HasJoin r = some r.joins
  where
    some : List (List ℕ) → Type 0
    some [] = ⊥
    some (join ∷ joins) = Unit {0}

-- how a constraint fails: out of memory, and only where there is a join
abbrev pub IsConstraintError : ClauseTexts → SqlBuilderError → Type 0
IsConstraintError r error = IsMemory error × HasJoin r

-- ---- calls

-- what a call makes of them
abbrev pub with_call : CallText → ClauseTexts → ClauseTexts
with_call call.Natural r = with_natural r
with_call call.Left r = with_operator operator.Left r
with_call call.LeftOuter r = with_operator operator.LeftOuter r
with_call call.Right r = with_operator operator.Right r
with_call call.RightOuter r = with_operator operator.RightOuter r
with_call call.Inner r = with_operator operator.Inner r
with_call call.Cross r = with_operator operator.Cross r
with_call call.Distinct r = with_distinct r
with_call (call.AndTable table) r = with_table table r
with_call (call.Join table) r = with_join table r
with_call (call.On constraint) r = with_on constraint r
with_call (call.OnEq left right) r = with_on (equation byte_units left right) r
with_call (call.Fields fields) r = with_fields fields r
with_call (call.SetFields fields) r = with_fields_set fields r
with_call (call.Field field) r = with_fields (field ∷ []) r
with_call (call.SetField field) r = with_fields_set (field ∷ []) r
with_call (call.Count field) r = with_fields (count byte_units field ∷ []) r
with_call (call.CountAs field name) r = with_fields (count_as byte_units field name ∷ []) r
with_call (call.SetTo field value) r = with_set (equation byte_units field value) r
with_call (call.SetStr field value) r = with_set (equation byte_units field (quoted value)) r
with_call (call.Values values) r = with_row values r
with_call (call.Select query) r = with_query query r
with_call (call.Returning fields) r = with_returning fields r
with_call call.ReturningId r = with_returning (codes "id") r
with_call (call.GroupBy field) r = with_group_field field r
with_call (call.Having condition) r = with_having condition r
with_call (call.Union query) r = with_union false query r
with_call (call.UnionAll query) r = with_union true query r
with_call (call.OrderBy field descending) r = with_order descending field r
with_call (call.OrderAsc field) r = with_order false field r
with_call (call.OrderDesc field) r = with_order true field r
with_call (call.Limit limit) r = with_limit limit r
with_call (call.Offset offset) r = with_offset offset r
with_call (call.Cond family condition) r = with_condition family condition r

-- a call without a text
abbrev pub with_nullary : NullaryClause → ClauseTexts → ClauseTexts
with_nullary clause r = with_call (nullary_call clause) r

-- a call with one text
abbrev pub with_unary : UnaryClause → List ℕ → ClauseTexts → ClauseTexts
with_unary clause text r = with_call (unary_call clause text) r

-- a call with two texts
abbrev pub with_binary : BinaryClause → List ℕ → List ℕ → ClauseTexts → ClauseTexts
with_binary clause first second r = with_call (binary_call clause first second) r

-- a call with a list of texts
abbrev pub with_variadic : VariadicClause → List (List ℕ) → ClauseTexts → ClauseTexts
with_variadic clause texts r = with_call (variadic_call clause texts) r

-- how a call without a text fails: one of them takes memory
abbrev pub IsNullaryError : NullaryClause → SqlBuilderError → Type 0
IsNullaryError nullary.ReturningId error = IsMemory error
IsNullaryError _ error = ⊥

-- how a call with one text fails
abbrev pub IsUnaryError : UnaryClause → ClauseTexts → SqlBuilderError → Type 0
IsUnaryError unary.On r error = IsConstraintError r error
IsUnaryError _ r error = IsMemory error

-- how a call with two texts fails
abbrev pub IsBinaryError : BinaryClause → ClauseTexts → SqlBuilderError → Type 0
IsBinaryError binary.OnEq r error = IsConstraintError r error
IsBinaryError _ r error = IsMemory error

-- a call may take memory: one that sets a truth value or an operator takes none, and a constraint only where there is a join
abbrev pub MayTakeMemory : CallText → ClauseTexts → Type 0
MayTakeMemory call.Natural r = ⊥
MayTakeMemory call.Left r = ⊥
MayTakeMemory call.LeftOuter r = ⊥
MayTakeMemory call.Right r = ⊥
MayTakeMemory call.RightOuter r = ⊥
MayTakeMemory call.Inner r = ⊥
MayTakeMemory call.Cross r = ⊥
MayTakeMemory call.Distinct r = ⊥
MayTakeMemory (call.On constraint) r = HasJoin r
MayTakeMemory (call.OnEq left right) r = HasJoin r
MayTakeMemory _ r = Unit {0}

-- how a call fails: because memory runs out, and only where it may take memory
abbrev pub IsCallError : CallText → ClauseTexts → SqlBuilderError → Type 0
IsCallError call r error = IsMemory error × MayTakeMemory call r
