use Rattle.sql_builder.proofs.Imports.{map}
use Rattle.sql_builder.specs.{clauses, call_view, finish_view, start_view}
use Rattle.sql_builder.proofs.statements.{statement_printed, statement_error, of_statement, statements_are_closed, statements_have_truth}
use Rattle.sql_builder.proofs.statements.{statements_keep_tokens, statements_nest, statements_read_back}
use Rattle.sql_builder.proofs.reading.{subqueries_nest}
use Rattle.sql_builder.proofs.calls.run.Goals as goal

pub returns-clause-text : goal.returns-clause-text
returns-clause-text c =
    let made = c.in_ok-builder.ensures.made in
    statement_printed (finish_view c.args.finish.now) (clauses (start_view c.args.start.now) (map call_view c.args.calls.now)) c.print.result
    (rw made at c.print.ensures.text) (rw made at c.print.ensures.error)

pub returns-clause-error : goal.returns-clause-error
returns-clause-error c =
    let made = c.in_ok-builder.ensures.made in
    statement_error (finish_view c.args.finish.now) (clauses (start_view c.args.start.now) (map call_view c.args.calls.now)) c.print.result
    (rw made at c.print.ensures.error) (rw made at c.print.ensures.memory)

-- the other clauses are laws of the statement
pub returns-clause-shape : goal.returns-clause-shape
returns-clause-shape c = λ all.
    let start = start_view c.args.start.now in
    let calls = map call_view c.args.calls.now in
    let finish = finish_view c.args.finish.now in
    of_statement start calls finish _ c.print.result (returns-clause-text c) (statements_keep_tokens start calls finish all)

pub returns-clause-closed : goal.returns-clause-closed
returns-clause-closed c = λ all.
    let start = start_view c.args.start.now in
    let calls = map call_view c.args.calls.now in
    let finish = finish_view c.args.finish.now in
    of_statement start calls finish _ c.print.result (returns-clause-text c) (statements_are_closed start calls finish all)

pub returns-clause-clauses : goal.returns-clause-clauses
returns-clause-clauses c = λ bare fit.
    let start = start_view c.args.start.now in
    let calls = map call_view c.args.calls.now in
    let finish = finish_view c.args.finish.now in
    of_statement start calls finish _ c.print.result (returns-clause-text c) (statements_read_back start calls finish bare fit)

pub returns-clause-truth : goal.returns-clause-truth
returns-clause-truth c = λ prints fit fit_conditions.
    let start = start_view c.args.start.now in
    let calls = map call_view c.args.calls.now in
    let finish = finish_view c.args.finish.now in
    of_statement start calls finish _ c.print.result (returns-clause-text c) (statements_have_truth start calls finish prints fit fit_conditions)

pub returns-clause-nests : goal.returns-clause-nests
returns-clause-nests c = λ all.
    let start = start_view c.args.start.now in
    let calls = map call_view c.args.calls.now in
    let finish = finish_view c.args.finish.now in
    of_statement start calls finish _ c.print.result (returns-clause-text c) (statements_nest start calls finish all)

pub returns-clause-nests_as_table : goal.returns-clause-nests_as_table
returns-clause-nests_as_table c = λ makes all.
    let start = start_view c.args.start.now in
    let calls = map call_view c.args.calls.now in
    let finish = finish_view c.args.finish.now in
    of_statement start calls finish _ c.print.result (returns-clause-text c) (subqueries_nest start calls finish makes all)
