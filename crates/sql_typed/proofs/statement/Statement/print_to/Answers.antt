use Rattle.sql_typed.proofs.Imports.{Err, Ok, refl, rules, string_bytes, Sql, fault_of}
use Rattle.sql_typed.proofs.FaultLemmas.{fails_with, passed_by}
use Rattle.sql_typed.proofs.PrintLemmas.{printed_behind}
use Rattle.sql_typed.proofs.statement.Statement.print_to.Goals as goal

pub returns-in_err-print_to-clause-error : goal.returns-in_err-print_to-clause-error
returns-in_err-print_to-clause-error g c =
    passed_by Sql c.clauses.ensures (fault_of c.args.self.now) (search rules) (Err c.in_err-print_to.field-0.0) _ c.from_residual-in_err-print_to.ensures.1
    (fails_with _ _ c.in_err-print_to.ensures.error c.in_err-print_to.ensures.memory)

pub returns-clause-error : goal.returns-clause-error
returns-clause-error g c =
    passed_by Sql c.clauses.ensures (fault_of c.args.self.now) (search rules) (Ok tt) _ refl
    (fails_with _ _ c.in_ok-print_to.ensures.error c.in_ok-print_to.ensures.memory)

pub returns-clause-appended : goal.returns-clause-appended
returns-clause-appended g c =
    printed_behind c.clauses.ensures (Ok tt) (string_bytes c.args.out.now) (string_bytes c.print_to.new.out) c.in_ok-print_to.ensures.appended
    (fails_with _ _ c.in_ok-print_to.ensures.error c.in_ok-print_to.ensures.memory)
