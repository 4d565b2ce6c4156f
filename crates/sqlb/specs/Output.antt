-- What a whole input says to print, and where it stops.
use Rattle.std.specs.Prelude.{ℕ, ◌-◌, List, [], ◌∷◌, ◌++◌, Bool, true, false, Option, Some, None, Result, Ok, Err, if◌then◌else◌, take, map, filter_map}
use Rattle.std.specs.Prelude.{flat_map, length, codes, is_err, is_some, option_map}
use Rattle.std.specs.List.{enumerate_from}
use Rattle.sql_builder.specs.Calls.{StartText, CallText}
use Rattle.sql_builder.specs.Filters.{any_unfollowed, since, until}
use Rattle.sqlb.specs.Lines.{lines, CommandResult, Starts, Calls, Finishes, command_of}
use Rattle.sql_builder.specs.Statement.{statement}
use Rattle.sql_builder.specs.SqlBuilderError.{SqlBuilderError}
use Rattle.sqlb.specs.declared.fault.Reason.{Reason}
use Rattle.sqlb.specs.declared.fault.Reason.TheVariants.{NoStatement, StatementOpen, NoEnd, Builder}

-- the first element, if there is one
abbrev pub first : {X : Type 0} → List X → Option X
first [] = None
first (x ∷ xs) = Some x

-- A statement that is open: its start, and the calls made so far.
pub record OpenStatement : Type 0 where
  pub start : StartText
  pub calls : List CallText

-- the start that a line is, if it is one
abbrev pub start_in : CommandResult → Option StartText
start_in (Ok (Starts start)) = Some start
start_in _ = None

-- the call that a line is, if it is one
abbrev pub call_in : CommandResult → Option CallText
call_in (Ok (Calls call)) = Some call
call_in _ = None

-- whether a line is a start
abbrev pub is_start : CommandResult → Bool
is_start (Ok (Starts start)) = true
is_start _ = false

-- whether a line is a finish
abbrev pub is_finish : CommandResult → Bool
is_finish (Ok (Finishes finish)) = true
is_finish _ = false

-- whether the line after these is inside a statement: some start line among them has no finish line after it
abbrev pub is_inside : List CommandResult → Bool
is_inside before = any_unfollowed is_start is_finish before

-- the first start of these lines, with all their calls
abbrev pub open_statement_in : List CommandResult → Option OpenStatement
open_statement_in commands =
    option_map (λ start. record { start = start; calls = filter_map call_in commands })
    (first (filter_map start_in commands))

-- the statement that the line after these is inside of: the last start line's, with the calls after it
unfoldable pub open_statement : List CommandResult → Option OpenStatement
open_statement before = if is_inside before then open_statement_in (since is_start before) else None

-- what a line answers: the text that it finishes, if it finishes one, or the first check that it fails
abbrev pub Answer : Type 0
Answer = Result (Option (List ℕ)) Reason

-- a finished statement's text, or why there is none
abbrev pub finish_answer : Result (List ℕ) SqlBuilderError → Answer
finish_answer (Ok text) = Ok (Some text)
finish_answer (Err error) = Err (Builder error)

-- what a line answers, by the statement that it is inside of
abbrev pub answer : Option OpenStatement → CommandResult → Answer
answer inside (Err reason) = Err reason
answer None (Ok (Starts start)) = Ok None
answer (Some inside) (Ok (Starts start)) = Err StatementOpen
answer None (Ok (Calls call)) = Err NoStatement
answer (Some inside) (Ok (Calls call)) = Ok None
answer None (Ok (Finishes finish)) = Err NoStatement
answer (Some inside) (Ok (Finishes finish)) = finish_answer (statement inside.start inside.calls finish)

-- what line n answers, counted from 1
abbrev pub answer_at : List CommandResult → ℕ × CommandResult → Answer
answer_at commands (n, line) = answer (open_statement (take (n - 1) commands)) line

-- what each line answers
abbrev pub answers : List CommandResult → List (Answer)
answers commands = map (answer_at commands) (enumerate_from 1 commands)

-- a line's fault, with its number
abbrev pub fault_at : ℕ × Answer → Option (ℕ × Reason)
fault_at (n, Ok text) = None
fault_at (n, Err reason) = Some (n, reason)

-- the last line's fault, where a statement is still open after it
abbrev pub end_fault : List CommandResult → List (ℕ × Reason)
end_fault commands = if is_some (open_statement commands) then (length commands, NoEnd) ∷ [] else []

-- the answers of an input's lines before the first that fails a check
unfoldable pub accepted_answers : List ℕ → List (Answer)
accepted_answers input = until is_err (answers (map command_of (lines input)))

-- the text that a line finishes, with a line feed
abbrev pub printed_line : Answer → Option (List ℕ)
printed_line (Ok (Some text)) = Some (text ++ codes "\n")
printed_line _ = None

-- What an input says to print, each statement with its line feed, and the first fault with its line.
pub record Output : Type 0 where
  pub statements : List (List ℕ)
  pub fault : Option (ℕ × Reason)

-- the statements that are finished before the first line that fails a check, and that line's fault; where none
-- fails, all of them
abbrev pub output_of : List CommandResult → Output
output_of commands = record {
  statements = filter_map printed_line (until is_err (answers commands));
  fault = first (filter_map fault_at (enumerate_from 1 (answers commands)) ++ end_fault commands);
}

-- what an input says to print, and the fault that stops it: that of its lines, each read by itself
unfoldable pub output : List ℕ → Output
output input = output_of (map command_of (lines input))

-- the statements one after another
abbrev pub output_text : Output → List ℕ
output_text out = flat_map (λ statement. statement) out.statements
