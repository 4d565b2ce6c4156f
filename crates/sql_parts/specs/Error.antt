-- The messages of errors, and which calls fail only because memory runs out.
use Rattle.std.specs.Prelude.{ℕ, List, codes, Result, IfErr}
use Rattle.sql_parts.specs.declared.error.SqlBuilderError.{SqlBuilderError}
use Rattle.sql_parts.specs.declared.error.SqlBuilderError.TheVariants.{NoTableName, NoValues, NoSetFields, NoArguments, Memory, NoGroupBy}

-- an error's message
abbrev pub message_text : SqlBuilderError → List ℕ
message_text NoTableName = codes "No table name"
message_text NoValues = codes "No values"
message_text NoSetFields = codes "No set fields"
message_text NoArguments = codes "No arguments"
message_text (Memory error) = codes "Out of memory"
message_text NoGroupBy = codes "No group by"

-- memory ran out
abbrev pub IsMemory : SqlBuilderError → Type 0
IsMemory (Memory error) = Unit {0}
IsMemory _ = ⊥

-- where the call fails, memory ran out
abbrev pub FailsOnlyByMemory : {T : Type 0} → Result T SqlBuilderError → Type 0
FailsOnlyByMemory result = IfErr result IsMemory
