use Rattle.sql_typed.proofs.Imports.{Err, Ok, refl, Query, error_at, made_by, fault_of}
use Rattle.sql_typed.proofs.FaultLemmas.{passed_on}
use Rattle.sql_typed.proofs.select.Statement+SelectKind.query.Goals as goal

pub invariant_of-result : goal.invariant_of-result
invariant_of-result c = record { fits = c.in_ok-text.ensures.printed.nests }

pub returns-in_err-text-clause-error : goal.returns-in_err-text-clause-error
returns-in_err-text-clause-error c =
    let made = c.args.self.now in
    passed_on (fault_of made) (error_at Query (made_by made.start made.calls)) (Err c.in_err-text.field-0.0) _ c.from_residual.ensures.1 c.in_err-text.ensures.error

pub returns-clause-error : goal.returns-clause-error
returns-clause-error c =
    let made = c.args.self.now in
    passed_on (fault_of made) (error_at Query (made_by made.start made.calls)) (Ok c.in_ok-text.text) _ refl c.in_ok-text.ensures.error
