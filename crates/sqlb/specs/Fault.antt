-- How faults are printed, and the exit status that each asks for.
use Rattle.std.specs.Prelude.{ℕ, List, ◌++◌, codes, decimal}
use Rattle.sql_builder.specs.Error.{message_text}
use Rattle.sqlb.specs.declared.fault.Reason.{Reason}
use Rattle.sqlb.specs.declared.fault.Reason.TheVariants.{UnknownCall, WrongArguments, NoStatement, StatementOpen, NoEnd, NotUtf8, Builder}
use Rattle.sql_builder.specs.SqlBuilderError.{SqlBuilderError}
use Rattle.sql_builder.specs.SqlBuilderError.TheVariants as builder
use Rattle.sqlb.specs.declared.fault.LineError.{LineError}
use Rattle.sqlb.specs.declared.fault.LineError.TheVariants as line
use Rattle.sqlb.specs.declared.fault.Fault.{Fault}
use Rattle.sqlb.specs.declared.fault.Fault.TheVariants.{At, Memory, Read, Write}

-- a reason's text
abbrev pub reason_text : Reason → List ℕ
reason_text UnknownCall = codes "unknown call"
reason_text WrongArguments = codes "wrong arguments"
reason_text NoStatement = codes "no statement"
reason_text StatementOpen = codes "statement open"
reason_text NoEnd = codes "no end"
reason_text NotUtf8 = codes "not UTF-8"
reason_text (Builder error) = message_text error

-- a fault's text
abbrev pub fault_text : Fault → List ℕ
fault_text (At line reason) = codes "line " ++ decimal line ++ codes ": " ++ reason_text reason
fault_text Memory = codes "Out of memory"
fault_text Read = codes "read failed"
fault_text Write = codes "write failed"

-- 1 for what an input or memory did not allow, 2 for a reader or a writer that failed
abbrev pub fault_status : Fault → ℕ
fault_status (At line reason) = 1
fault_status Memory = 1
fault_status Read = 2
fault_status Write = 2

-- an error of the builder as an error of a line: out of memory is no reason of a line
abbrev pub line_error : SqlBuilderError → LineError
line_error (builder.Memory error) = line.Memory
line_error error = line.Rejected (Builder error)
