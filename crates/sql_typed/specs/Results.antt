-- What a call gives that fails only if memory runs out.
use Rattle.std.specs.Prelude.{◌≡◌, ℕ, List, Result, Ok, Err, string_bytes}
use Rattle.sql_parts.specs.Error.{IsMemory}
use Rattle.sql_parts.specs.declared.error.SqlBuilderError.{SqlBuilderError}
use Rattle.sql_typed.specs.declared.printed.Printed.{Printed}
use Rattle.sql_typed.specs.declared.texts.Condition.{Condition}

-- this value, or memory ran out
abbrev pub Gives : {X : Type 0} → Result X SqlBuilderError → X → Type 0
Gives (Ok given) wanted = given ≡ wanted
Gives (Err error) wanted = IsMemory error

-- a condition of this text, or memory ran out
abbrev pub Prints : Result Condition SqlBuilderError → List ℕ → Type 0
Prints (Ok condition) text = string_bytes condition.text ≡ text
Prints (Err error) text = IsMemory error

-- a statement, or its front, of this text, or memory ran out
abbrev pub Continues : {K : Type 0} → Result (Printed K) SqlBuilderError → List ℕ → Type 0
Continues (Ok printed) text = string_bytes printed.text ≡ text
Continues (Err error) text = IsMemory error
