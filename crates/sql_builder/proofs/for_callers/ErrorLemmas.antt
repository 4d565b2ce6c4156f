-- Calls after which a statement still has no error but `Memory`.
use Rattle.sql_builder.proofs.Imports.{◌≡◌, ℕ, List, [], ◌∷◌, ◌++◌, Option, None, Some, Bool, true, false, refl, IsNone, SqlBuilderError, NoValues, NoSetFields}
use Rattle.sql_builder.proofs.Imports.{NoGroupBy, Kind, SelectFrom, SelectValues, InsertInto, UpdateTable, DeleteFrom, And, Or}
use Rattle.sql_builder.specs.{ClauseTexts, with_call, CallText, byte_units, query_error, empty_error, no_group_by_error, no_rows_error, no_table_error}
use Rattle.sql_builder.specs.{sql_error, error_of, further_table}
use Rattle.sql_builder.specs.Calls as call

-- the calls after which a statement may have an error that it had not before: HAVING, and fields in the place of others
abbrev pub may_cause_error : CallText → Bool
may_cause_error (call.Having condition) = true
may_cause_error (call.SetFields fields) = true
may_cause_error _ = false

-- there is no error
abbrev Allows : Option SqlBuilderError → Type 0
Allows failed = IsNone failed

-- where the one has no error, the other has none
abbrev Keeps : Option SqlBuilderError → Option SqlBuilderError → Type 0
Keeps one other = Allows one → Allows other

table-parts : (table : List ℕ) (other : Option SqlBuilderError) → Allows (no_table_error table other) → Allows (no_table_error table None) × Allows other
table-parts [] other h = cc
table-parts (byte ∷ bytes) other h = (refl, h)

table-joined : (table : List ℕ) (other : Option SqlBuilderError) → Allows (no_table_error table None) → Allows other → Allows (no_table_error table other)
table-joined [] other h k = cc
table-joined (byte ∷ bytes) other h k = k

-- the error of a statement rests on its table, its fields, its rows, what it sets, and its HAVING
keeps_all : (k : Kind) (r q : ClauseTexts) → Keeps (no_table_error r.table None) (no_table_error q.table None)
    → Keeps (empty_error NoValues r.fields) (empty_error NoValues q.fields)
    → Keeps (no_rows_error r.query r.rows) (no_rows_error q.query q.rows) → Keeps (empty_error NoSetFields r.sets) (empty_error NoSetFields q.sets)
    → Keeps (query_error r) (query_error q) → Keeps (error_of k r) (error_of k q)
keeps_all SelectFrom r q table fields rows sets having h = let parts = table-parts r.table (query_error r) h in
    table-joined q.table (query_error q) (table parts.0) (having parts.1)
keeps_all SelectValues r q table fields rows sets having h = fields h
keeps_all InsertInto r q table fields rows sets having h = let parts = table-parts r.table (no_rows_error r.query r.rows) h in
    table-joined q.table (no_rows_error q.query q.rows) (table parts.0) (rows parts.1)
keeps_all UpdateTable r q table fields rows sets having h = let parts = table-parts r.table (empty_error NoSetFields r.sets) h in
    table-joined q.table (empty_error NoSetFields q.sets) (table parts.0) (sets parts.1)
keeps_all DeleteFrom r q table fields rows sets having h = table h

longer_table : (table more : List ℕ) → Keeps (no_table_error table None) (no_table_error (table ++ more) None)
longer_table [] more h = cc
longer_table (byte ∷ bytes) more h = refl

longer : {T : Type 0} (e : SqlBuilderError) (ts more : List T) → Keeps (empty_error e ts) (empty_error e (ts ++ more))
longer e [] more h = cc
longer e (t ∷ ts) more h = refl

with_one : {T : Type 0} (e : SqlBuilderError) (ts : List T) (t : T) → Allows (empty_error e (ts ++ t ∷ []))
with_one e [] t = refl
with_one e (other ∷ ts) t = refl

grouped : {T : Type 0} (having : Option T) (fields : List T) (field : T) → Allows (no_group_by_error having (fields ++ field ∷ []))
grouped None fields field = refl
grouped (Some having) fields field = with_one NoGroupBy fields field

-- a call that leaves these alone
abbrev same : {T : Type 0} → T → T
same h = h

pub call_keeps : (c : CallText) (r : ClauseTexts) → may_cause_error c ≡ false → IsNone (sql_error r) → IsNone (sql_error (with_call c r))
call_keeps (call.AndTable table) r h = keeps_all r.kind r (with_call (call.AndTable table) r) (longer_table r.table (further_table byte_units table)) same
    same same same
call_keeps (call.Fields fields) r h = keeps_all r.kind r (with_call (call.Fields fields) r) same (longer NoValues r.fields fields) same same same
call_keeps (call.SetFields fields) r h = cc
call_keeps (call.Field field) r h = keeps_all r.kind r (with_call (call.Field field) r) same (longer NoValues r.fields _) same same same
call_keeps (call.SetField field) r h = keeps_all r.kind r (with_call (call.SetField field) r) same (λ _. refl) same same same
call_keeps (call.Count field) r h = keeps_all r.kind r (with_call (call.Count field) r) same (longer NoValues r.fields _) same same same
call_keeps (call.CountAs field name) r h = keeps_all r.kind r (with_call (call.CountAs field name) r) same (longer NoValues r.fields _) same same same
call_keeps (call.SetTo field value) r h = keeps_all r.kind r (with_call (call.SetTo field value) r) same same same (longer NoSetFields r.sets _) same
call_keeps (call.SetStr field value) r h = keeps_all r.kind r (with_call (call.SetStr field value) r) same same same (longer NoSetFields r.sets _) same
call_keeps (call.Values values) r h = keeps_all r.kind r (with_call (call.Values values) r) same same (λ _. with_one NoValues r.rows _) same same
call_keeps (call.Select query) r h = keeps_all r.kind r (with_call (call.Select query) r) same same (λ _. refl) same same
call_keeps (call.GroupBy field) r h = keeps_all r.kind r (with_call (call.GroupBy field) r) same same same same (λ _. grouped r.having r.group_fields field)
call_keeps (call.Having condition) r h = cc
call_keeps (call.Cond And condition) r h = keeps_all r.kind r (with_call (call.Cond And condition) r) same same same same same
call_keeps (call.Cond Or condition) r h = keeps_all r.kind r (with_call (call.Cond Or condition) r) same same same same same
call_keeps c r h = keeps_all r.kind r (with_call c r) same same same same same
