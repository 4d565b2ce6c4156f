use Rattle.sqlb.proofs.Imports.{◌≡◌, Some, err_from_is_err_and, rules}
use Rattle.sqlb.proofs.outcomes.{unprinted}
use Rattle.sql_builder.specs.Calls.{finish_view}
use Rattle.sqlb.proofs.script.Script.finish.Goals as goal

pub returns-in_err-print_to : goal.returns-in_err-print_to
returns-in_err-print_to c =
    let p = err_from_is_err_and c.from_residual-in_err-print_to.result c.from_residual-in_err-print_to.ensures.1 in
    let is_open : c.args.self.now ≡ Some c.self.inside.builder = search rules in
    rw (p.1, p.2, is_open) (unprinted c.in_err-print_to.field-0.0 c.self.inside.builder (finish_view c.args.finish.now) _ c.in_err-print_to.ensures.error c.in_err-print_to.ensures.memory)
