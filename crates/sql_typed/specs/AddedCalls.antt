-- The calls that are added to a statement.
use Rattle.std.specs.Prelude.{Bool, true, string_bytes}
use Rattle.sql_parts.specs.Error.{IsMemory}
use Rattle.sql_parts.specs.declared.error.SqlBuilderError.{SqlBuilderError}
use Rattle.sql_builder.specs.Builder.{IsNullaryError}
use Rattle.sql_builder.specs.Calls as call
use Rattle.sql_builder.specs.Calls.{CallText, Cond, Sql, Values, binary_call, nullary_call, unary_call}
use Rattle.sql_builder.specs.declared.condition.Condition.TheVariants.{Raw}
use Rattle.sql_builder.specs.Meaning.{prints_where}
use Rattle.sql_builder.specs.declared.clauses.Kind.{Kind}
use Rattle.sql_typed.specs.declared.select.JoinKind.{JoinKind}
use Rattle.sql_typed.specs.declared.select.JoinKind.TheVariants as kind
use Rattle.sql_typed.specs.declared.statement.AddedCall.{AddedCall}
use Rattle.sql_typed.specs.declared.statement.AddedCall.TheVariants as added

-- the call that is added
abbrev pub added_call : AddedCall → CallText
added_call (added.Unary clause text) = unary_call clause text.now
added_call (added.Binary clause first second) = binary_call clause first.now second.now
added_call (added.Condition family condition) = Cond family (Raw (string_bytes condition))
added_call (added.Nullary clause) = nullary_call clause
added_call (added.Row values) = Values values

-- whether a statement of this kind prints what is added: a condition needs a WHERE
abbrev pub prints_added : Kind → AddedCall → Bool
prints_added begun (added.Condition family condition) = prints_where Sql begun
prints_added begun _ = true

-- how adding fails: most of the calls without a text take no memory
abbrev pub IsAddedError : AddedCall → SqlBuilderError → Type 0
IsAddedError (added.Nullary clause) error = IsNullaryError clause error
IsAddedError _ error = IsMemory error

-- the call of an operator
abbrev pub operator_call : JoinKind → CallText
operator_call kind.Inner = call.Inner
operator_call kind.Left = call.Left
operator_call kind.LeftOuter = call.LeftOuter
operator_call kind.Right = call.Right
operator_call kind.RightOuter = call.RightOuter
operator_call kind.Cross = call.Cross
