-- What a builder was given stands for the open statement.
use Rattle.sqlb.proofs.Imports.{◌≡◌, [], ◌∷◌, ◌++◌, Option, None, Some, Ok, Err, refl, ap, sym, is_some, option_map}
use Rattle.sql_builder.proofs.statements.RunLemmas.{clauses-push, clauses_start}
use Rattle.sql_builder.proofs.statements.StatementLawLemmas.{builders_print_statements}
use Rattle.sqlb.specs.{CommandResult, Starts, Calls, Finishes, OpenStatement, answer, finish_answer, given, given_after, given_answer}

-- the statement that is open after a line, by what was open before it
abbrev pub open_after : Option OpenStatement → CommandResult → Option OpenStatement
open_after before (Ok (Starts start)) = Some (record { start = start; calls = [] })
open_after before (Ok (Calls call)) =
    option_map (λ open_statement. record { start = open_statement.start; calls = open_statement.calls ++ call ∷ [] })
    before
open_after before (Ok (Finishes finish)) = None
open_after before (Err reason) = before

pub given-answer : (o : Option OpenStatement) (s : CommandResult) → answer o s ≡ given_answer (option_map given o) s
given-answer o (Err reason) = refl
given-answer None (Ok (Starts start)) = refl
given-answer (Some inside) (Ok (Starts start)) = refl
given-answer None (Ok (Calls call)) = refl
given-answer (Some inside) (Ok (Calls call)) = refl
given-answer None (Ok (Finishes finish)) = refl
given-answer (Some inside) (Ok (Finishes finish)) = ap finish_answer (sym (builders_print_statements inside.start inside.calls finish))

pub given-after : (o : Option OpenStatement) (s : CommandResult) → option_map given (open_after o s) ≡ given_after (option_map given o) s
given-after o (Err reason) = refl
given-after o (Ok (Starts start)) = ap (λ r. Some r) (clauses_start start)
given-after o (Ok (Finishes finish)) = refl
given-after None (Ok (Calls call)) = refl
given-after (Some inside) (Ok (Calls call)) = ap (λ r. Some r) (clauses-push inside.start inside.calls call)

pub given-is_some : (o : Option OpenStatement) → is_some (option_map given o) ≡ is_some o
given-is_some None = refl
given-is_some (Some inside) = refl
