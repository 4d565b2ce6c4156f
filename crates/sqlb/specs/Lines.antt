-- The lines of an input, and what each says.
use Rattle.std.specs.Prelude.{ℕ, ◌==◌, List, [], ◌∷◌, Bool, true, false, Option, Some, None, Result, Err, if◌then◌else◌, bytes_eq, codes, ok_or, option_map}
use Rattle.std.specs.List.{slice_split}
use Rattle.std.specs.Str.{is_utf8}
use Rattle.sql_builder.specs.Calls as call
use Rattle.sql_builder.specs.Calls.{CallText, FinishText, StartText, binary_call, nullary_call, start_on, unary_call, variadic_call}
use Rattle.sqlb.specs.Names.{condition_of, call_named}
use Rattle.sqlb.specs.declared.fault.Reason.{Reason}
use Rattle.sqlb.specs.declared.fault.Reason.TheVariants.{NotUtf8, UnknownCall, WrongArguments}
use Rattle.sqlb.specs.declared.names.NamedCall.{NamedCall}
use Rattle.sqlb.specs.declared.names.NamedCall.TheVariants as named
use Rattle.sqlb.specs.declared.names.Printing.{Printing}
use Rattle.sqlb.specs.declared.names.Printing.TheVariants as printing

-- an empty part after the last line feed is no line
abbrev pub without_empty_last : List (List ℕ) → List (List ℕ)
without_empty_last [] = []
without_empty_last ([] ∷ []) = []
without_empty_last ((byte ∷ bytes) ∷ []) = (byte ∷ bytes) ∷ []
without_empty_last (part ∷ next ∷ parts) = part ∷ without_empty_last (next ∷ parts)

-- the lines of an input: the parts between line feeds
abbrev pub lines : List ℕ → List (List ℕ)
lines input = without_empty_last (slice_split (λ byte. byte == 10) input)

-- a line's name and its arguments: the parts between TABs
abbrev pub parts_of : List ℕ → List (List ℕ)
parts_of line = slice_split (λ byte. byte == 9) line

-- What a line says: a start, a call or a finish.
pub data CommandText : Type 0 where
  Starts : StartText → CommandText
  Calls : CallText → CommandText
  Finishes : FinishText → CommandText

-- what a line says, or why it is rejected
abbrev pub CommandResult : Type 0
CommandResult = Result CommandText Reason

-- how a printing call ends the statement
abbrev pub finish_of : Printing → FinishText
finish_of printing.Sql = call.Sql
finish_of printing.Query = call.Query
finish_of printing.QueryValues = call.QueryValues
finish_of printing.Subquery = call.Subquery

-- the truth value that a text names
abbrev pub flag_in : List ℕ → Option Bool
flag_in text =
    if bytes_eq text (codes "true") then Some true
    else if bytes_eq text (codes "false") then Some false else None

-- what a name says of its arguments, if they fit
abbrev pub command : NamedCall → List (List ℕ) → Option CommandText
command (named.Nullary clause) [] = Some (Calls (nullary_call clause))
command (named.Prints print) [] = Some (Finishes (finish_of print))
command (named.Start start) (table ∷ []) = Some (Starts (start_on start table))
command named.SelectValues values = Some (Starts (call.SelectValues values))
command (named.Unary clause) (text ∷ []) = Some (Calls (unary_call clause text))
command (named.Binary clause) (first ∷ second ∷ []) = Some (Calls (binary_call clause first second))
command named.OrderBy (field ∷ flag ∷ []) = option_map (λ descending. Calls (call.OrderBy field descending)) (flag_in flag)
command (named.Variadic clause) texts = Some (Calls (variadic_call clause texts))
command (named.Where family kind) arguments = option_map (λ made. Calls (call.Cond family made)) (condition_of kind arguments)
command named.SubqueryAs (name ∷ []) = Some (Finishes (call.SubqueryAs name))
command _ _ = None

-- the checks of a line by itself, in their order: its name is known, and its arguments fit
abbrev pub command_with : Option NamedCall → List (List ℕ) → CommandResult
command_with None arguments = Err UnknownCall
command_with (Some call) arguments = ok_or (command call arguments) WrongArguments

-- what a name and its arguments say
abbrev pub command_in_parts : List (List ℕ) → CommandResult
command_in_parts [] = Err UnknownCall
command_in_parts (name ∷ arguments) = command_with (call_named name) arguments

-- what a text says
abbrev pub command_in : List ℕ → CommandResult
command_in text = command_in_parts (parts_of text)

-- what a line says: it is UTF-8, before the other checks
unfoldable pub command_of : List ℕ → CommandResult
command_of line = if is_utf8 line then command_in line else Err NotUtf8
