-- What a line answers if its statement isn't printed.
use Rattle.std.specs.Prelude.{IfSome, IsNone, IsOk}
use Rattle.sqlb.proofs.Imports.{◌≡◌, ap, sym, subst, refl, List, ℕ, Option, Result, Ok, Err, None, Some, ClauseTexts}
use Rattle.sql_builder.specs.Error.{IsMemory}
use Rattle.sql_builder.specs.SqlBuilderError.{SqlBuilderError}
use Rattle.sql_builder.specs.SqlBuilderError.TheVariants as builder
use Rattle.sql_builder.specs.Calls.{FinishText}
use Rattle.sql_builder.specs.Statement.{error_at, text_at, unless_error}
use Rattle.sqlb.specs.declared.fault.LineError.{LineError}
use Rattle.sqlb.specs.declared.fault.LineError.TheVariants as line
use Rattle.sqlb.specs.declared.fault.Reason.TheVariants.{Builder}
use Rattle.sqlb.specs.{line_error, Answer, CommandResult, Finishes, Runs, finish_answer, given_answer}
use Rattle.sqlb.proofs.outcomes.CommandFacts.{by_finish}

rejects : (error : SqlBuilderError) → ¬ (IsMemory error) → line_error error ≡ line.Rejected (Builder error)
rejects (builder.Memory error) isnt = absurd (isnt tt)
rejects error isnt = refl

-- a line's error, by what it is answered
abbrev Fails : LineError → Answer → Type 0
Fails line.Memory answer = IsOk answer
Fails (line.Rejected reason) answer = answer ≡ Err reason

by_memory : (error : SqlBuilderError) (text : List ℕ) → IsMemory error → Fails (line_error error) (Ok (Some text))
by_memory (builder.Memory error) text is = refl
by_memory error text is = absurd is

abbrev failed : SqlBuilderError → Result (Unit {0}) SqlBuilderError
failed error = Err error

same_error : (one other : SqlBuilderError) → failed one ≡ failed other → one ≡ other
same_error one other same = ap (λ (answer : Result (Unit {0}) SqlBuilderError). elim answer [ Ok done ↦ other | Err it ↦ it ]) same

by_error : (error : SqlBuilderError) (at : Option SqlBuilderError) (text : List ℕ) → IfSome at (λ first. ¬ (IsMemory first))
    → IfSome at (λ first. failed error ≡ failed first) → (IsNone at → IsMemory error) → Fails (line_error error) (finish_answer (unless_error at text))
by_error error None text no_memory same memory = by_memory error text (memory refl)
by_error error (Some first) text no_memory same memory =
    subst (λ it. Fails (line_error it) (Err (Builder first))) (sym (same_error error first same))
    (subst (λ it. Fails it (Err (Builder first))) (sym (rejects first no_memory)) refl)

by_line : (it : LineError) (inside : Option ClauseTexts) (text : List ℕ) (command : CommandResult) → Fails it (given_answer inside command)
    → Runs (Err it) inside inside text command
by_line line.Memory inside text command fails = (fails, refl)
by_line (line.Rejected reason) inside text command fails = (fails, refl)

pub unprinted : (error : SqlBuilderError) (inside : ClauseTexts) (finish : FinishText) (text : List ℕ)
    → IfSome (error_at finish inside) (λ first. failed error ≡ failed first) → (IsNone (error_at finish inside) → IsMemory error)
    → Runs (Err (line_error error)) (Some inside) (Some inside) text (Ok (Finishes finish))
unprinted error inside finish text same memory =
    by_line (line_error error) (Some inside) text (Ok (Finishes finish))
    (by_error error (error_at finish inside) (text_at finish inside) (by_finish finish inside) same memory)
