-- What the lines of an input do one after another.
use Rattle.std.specs.Prelude.{◌≡◌, ℕ, List, Bool, true, false, Option, Some, None, Result, Ok, Err, IsOk, option_map}
use Rattle.sql_builder.specs.Builder.{ClauseTexts, started, with_call}
use Rattle.sql_builder.specs.Calls.{FinishText, clauses}
use Rattle.sql_builder.specs.Clauses.{map_clauses}
use Rattle.sql_builder.specs.SqlBuilderError.{SqlBuilderError}
use Rattle.sql_builder.specs.Statement.{error_at, text_at, unless_error}
use Rattle.sql_builder.specs.Pieces.{pieces_text}
use Rattle.sqlb.specs.Lines.{CommandResult, CommandText, Starts, Calls, Finishes}
use Rattle.sqlb.specs.Output.{Answer, OpenStatement, finish_answer}
use Rattle.sqlb.specs.declared.fault.Reason.{Reason}
use Rattle.sqlb.specs.declared.fault.Reason.TheVariants.{NoStatement, StatementOpen}
use Rattle.sqlb.specs.declared.fault.LineError.{LineError}
use Rattle.sqlb.specs.declared.fault.LineError.TheVariants.{Rejected, Memory}

-- what an open statement has given its builder
abbrev pub given : OpenStatement → ClauseTexts
given open_statement = map_clauses pieces_text (clauses open_statement.start open_statement.calls)

-- the text that a finish prints of what a builder was given, or why it prints none
abbrev pub printed : FinishText → ClauseTexts → Result (List ℕ) SqlBuilderError
printed finish r = unless_error (error_at finish r) (text_at finish r)

-- what a line answers, by what the statement that it is inside of has given its builder
abbrev pub given_answer : Option ClauseTexts → CommandResult → Answer
given_answer inside (Err reason) = Err reason
given_answer None (Ok (Starts start)) = Ok None
given_answer (Some r) (Ok (Starts start)) = Err StatementOpen
given_answer None (Ok (Calls call)) = Err NoStatement
given_answer (Some r) (Ok (Calls call)) = Ok None
given_answer None (Ok (Finishes finish)) = Err NoStatement
given_answer (Some r) (Ok (Finishes finish)) = finish_answer (printed finish r)

-- what the open statement has given its builder after a line
abbrev pub given_after : Option ClauseTexts → CommandResult → Option ClauseTexts
given_after before (Ok (Starts start)) = Some (started start)
given_after before (Ok (Calls call)) = option_map (with_call call) before
given_after before (Ok (Finishes finish)) = None
given_after before (Err reason) = before

-- A check answers what is wanted; it takes no memory.
abbrev pub Checks : {V W : Type 0} → (V → W) → Result V Reason → Result W Reason → Type 0
Checks view (Ok value) wanted = wanted ≡ Ok (view value)
Checks view (Err reason) wanted = wanted ≡ Err reason

-- A call answers what is wanted, unless memory runs out, which it can't do in place of a reason.
abbrev pub Answers : {V W : Type 0} → (V → W) → Result V LineError → Result W Reason → Type 0
Answers view (Ok value) wanted = wanted ≡ Ok (view value)
Answers view (Err (Rejected reason)) wanted = wanted ≡ Err reason
Answers view (Err Memory) wanted = IsOk wanted

-- what a line printed, if it finished a statement
abbrev pub printed_if : List ℕ → Bool → Option (List ℕ)
printed_if text true = Some text
printed_if text false = None

-- A line is run, and says whether it finished a statement: it answers what is wanted, and the statement is what it is then,
-- or stays as it was where the line fails a check, or where memory runs out in one that fails none.
abbrev pub Runs : Result Bool LineError → Option ClauseTexts → Option ClauseTexts → List ℕ → CommandResult → Type 0
Runs (Ok finished) old new text command = (given_answer old command ≡ Ok (printed_if text finished)) × (new ≡ given_after old command)
Runs (Err (Rejected reason)) old new text command = (given_answer old command ≡ Err reason) × (new ≡ old)
Runs (Err Memory) old new text command = IsOk (given_answer old command) × (new ≡ old)

-- A start or a call is run, whatever is printed.
abbrev pub RunsCommand : Result Bool LineError → Option ClauseTexts → Option ClauseTexts → CommandText → Type 0
RunsCommand result old new command = (text : List ℕ) → Runs result old new text (Ok command)
