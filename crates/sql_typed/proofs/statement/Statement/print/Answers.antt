use Rattle.sql_typed.proofs.Imports.{Err, Ok, refl, rules, string_bytes, finish_view, fault_of}
use Rattle.sql_typed.proofs.FaultLemmas.{fails_with, passed_by}
use Rattle.sql_typed.proofs.PrintLemmas.{all_printed}
use Rattle.sql_typed.proofs.statement.Statement.print.Goals as goal

pub returns-in_err-text-clause-error : goal.returns-in_err-text-clause-error
returns-in_err-text-clause-error g c =
    passed_by (finish_view c.args.finish.now) c.clauses.ensures (fault_of c.args.self.now) (search rules) (Err c.in_err-text.field-0.0) _
    c.from_residual-in_err-text.ensures.1 (fails_with _ _ c.in_err-text.ensures.error c.in_err-text.ensures.memory)

pub returns-clause-error : goal.returns-clause-error
returns-clause-error g c =
    passed_by (finish_view c.args.finish.now) c.clauses.ensures (fault_of c.args.self.now) (search rules) (Ok c.in_ok-text.text) _
    refl (fails_with _ _ c.in_ok-text.ensures.error c.in_ok-text.ensures.memory)

pub returns-clause-printed : goal.returns-clause-printed
returns-clause-printed g c =
    all_printed (finish_view c.args.finish.now) c.clauses.ensures c.requires.fits string_bytes (Ok c.in_ok-text.text) c.in_ok-text.ensures.text
    (fails_with _ _ c.in_ok-text.ensures.error c.in_ok-text.ensures.memory)
