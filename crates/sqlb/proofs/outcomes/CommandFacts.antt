-- What a line says, by whether it is UTF-8; its reason is never out of memory.
use Rattle.sqlb.proofs.Imports.{◌≡◌, ℕ, Bool, true, false, List, refl, [], ◌∷◌, subst, Err, Option, None, Some, Ok, IfErr, ok_or, is_utf8, IsUtf8-from_is_utf8}
use Rattle.sqlb.proofs.Imports.{is_utf8-from_IsUtf8, NotUtf8, WrongArguments, NoGroupBy, NoSetFields, NoValues, ClauseTexts, Reason}
use Rattle.std.specs.Prelude.{IsUtf8, IfSome}
use Rattle.sqlb.specs.{command_of, command_in, CommandText, Starts, Calls, Finishes, CommandResult, command, command_in_parts, command_with, call_named, Answer}
use Rattle.sqlb.specs.{finish_answer, given_answer, HoldsNoMemory}
use Rattle.sql_builder.specs.Error.{IsMemory}
use Rattle.sql_builder.specs.SqlBuilderError.{SqlBuilderError}
use Rattle.sql_builder.specs.Calls.{FinishText, Sql, Query, QueryValues, Subquery, SubqueryAs}
use Rattle.sql_builder.specs.Clauses.{Clauses}
use Rattle.sql_builder.specs.Layout.{query_error, error_of, empty_error, no_group_by_error, no_rows_error, no_table_error}
use Rattle.sql_builder.specs.Statement.{error_at, text_at, unless_error}
use Rattle.sql_builder.specs.declared.clauses.Kind.{Kind}
use Rattle.sql_builder.specs.declared.clauses.Kind.TheVariants.{SelectFrom, SelectValues, InsertInto, UpdateTable, DeleteFrom}
use Rattle.sqlb.specs.declared.names.NamedCall.{NamedCall}

pub command_of-text : (line : List ℕ) → IsUtf8 line → command_of line ≡ command_in line
unfolding command_of
command_of-text line text = rw (is_utf8-from_IsUtf8 line text) refl

not_true : (b : Bool) → ¬ (b ≡ true) → b ≡ false
not_true true h = absurd (h refl)
not_true false h = refl

pub command_of-no_text : (line : List ℕ) → ¬ (IsUtf8 line) → command_of line ≡ Err NotUtf8
unfolding command_of
command_of-no_text line no_text = rw (not_true (is_utf8 line) (λ e. no_text (IsUtf8-from_is_utf8 line e))) refl

by_command : (o : Option CommandText) → IfErr (ok_or o WrongArguments) HoldsNoMemory
by_command None = tt
by_command (Some c) = tt

by_call : (o : Option NamedCall) (arguments : List (List ℕ)) → IfErr (command_with o arguments) HoldsNoMemory
by_call None arguments = tt
by_call (Some call) arguments = by_command (command call arguments)

by_parts : (parts : List (List ℕ)) → IfErr (command_in_parts parts) HoldsNoMemory
by_parts [] = tt
by_parts (name ∷ arguments) = by_call (call_named name) arguments

-- why a finish fails is never out of memory

abbrev HoldNoMemory : Option SqlBuilderError → Type 0
HoldNoMemory o = IfSome o (λ error. ¬ (IsMemory error))

by_table : (table : List ℕ) (other : Option SqlBuilderError) → HoldNoMemory other → HoldNoMemory (no_table_error table other)
by_table [] other h = λ is. is
by_table (byte ∷ bytes) other h = h

by_empty : {T : Type 0} (error : SqlBuilderError) → ¬ (IsMemory error) → (items : List T) → HoldNoMemory (empty_error error items)
by_empty error no_memory [] = no_memory
by_empty error no_memory (item ∷ items) = tt

by_rows : (query : Option (List ℕ)) (rows : List (List ℕ)) → HoldNoMemory (no_rows_error query rows)
by_rows None rows = by_empty NoValues (λ is. is) rows
by_rows (Some query) rows = tt

by_having : (having : Option (List ℕ)) (fields : List (List ℕ)) → HoldNoMemory (no_group_by_error having fields)
by_having None fields = tt
by_having (Some having) fields = by_empty NoGroupBy (λ is. is) fields

by_query : (r : Clauses (List ℕ)) → HoldNoMemory (query_error r)
by_query r = by_having r.having r.group_fields

by_kind : (kind : Kind) (r : Clauses (List ℕ)) → HoldNoMemory (error_of kind r)
by_kind SelectFrom r = by_table r.table (query_error r) (by_query r)
by_kind SelectValues r = by_empty NoValues (λ is. is) r.fields
by_kind InsertInto r = by_table r.table (no_rows_error r.query r.rows) (by_rows r.query r.rows)
by_kind UpdateTable r = by_table r.table (empty_error NoSetFields r.sets) (by_empty NoSetFields (λ is. is) r.sets)
by_kind DeleteFrom r = by_table r.table None tt

pub by_finish : (finish : FinishText) (r : Clauses (List ℕ)) → HoldNoMemory (error_at finish r)
by_finish Sql r = by_kind r.kind r
by_finish Query r = by_query r
by_finish QueryValues r = tt
by_finish Subquery r = by_query r
by_finish (SubqueryAs name) r = by_query r

by_error : (o : Option SqlBuilderError) (text : List ℕ) → HoldNoMemory o → IfErr (finish_answer (unless_error o text)) HoldsNoMemory
by_error None text h = tt
by_error (Some error) text h = h

by_answer : (script : Option ClauseTexts) (s : CommandResult) → IfErr s HoldsNoMemory → IfErr (given_answer script s) HoldsNoMemory
by_answer script (Err reason) h = h
by_answer None (Ok (Starts start)) h = tt
by_answer (Some r) (Ok (Starts start)) h = tt
by_answer None (Ok (Calls call)) h = tt
by_answer (Some r) (Ok (Calls call)) h = tt
by_answer None (Ok (Finishes finish)) h = tt
by_answer (Some r) (Ok (Finishes finish)) h = by_error (error_at finish r) (text_at finish r) (by_finish finish r)

-- the reason of a line that is rejected
pub rejected-holds_no_memory : (script : Option ClauseTexts) (parts : List (List ℕ)) (reason : Reason)
    → given_answer script (command_in_parts parts) ≡ Err reason → HoldsNoMemory reason
rejected-holds_no_memory script parts reason is =
    subst (λ (a : Answer). IfErr a HoldsNoMemory) is (by_answer script (command_in_parts parts) (by_parts parts))
