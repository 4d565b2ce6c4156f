use Rattle.sql_builder.proofs.Imports.{IfOk, List, map, Result, subst, sym, ℕ, tokens, SqlBuilderError}
use Rattle.sql_builder.specs.{call_view, finish_view, kind_of, start_view, EndsInOneSemicolon}
use Rattle.sql_builder.proofs.fragments.{balanced_fragments, fit_conditions, fit_fragments, fit_texts_balanced, fit_texts_are_closed, ends_in_semicolon}
use Rattle.sql_builder.proofs.reading.{where_unenclosed}
use Rattle.sql_builder.proofs.checks.run_checked.Goals as goal

pub returns-clause-shape : goal.returns-clause-shape
returns-clause-shape c =
    c.in_ok-run.ensures.shape
    (fit_texts_are_closed (start_view c.args.start.now) (map call_view c.args.calls.now) (finish_view c.args.finish.now) (sym c.in_ok-check.ensures.fit))

pub returns-clause-closed : goal.returns-clause-closed
returns-clause-closed c =
    c.in_ok-run.ensures.closed
    (fit_texts_are_closed (start_view c.args.start.now) (map call_view c.args.calls.now) (finish_view c.args.finish.now) (sym c.in_ok-check.ensures.fit))

pub returns-clause-semicolon : goal.returns-clause-semicolon
returns-clause-semicolon c = λ is.
    let start = start_view c.args.start.now in
    let calls = map call_view c.args.calls.now in
    let finish = finish_view c.args.finish.now in
    subst (λ (made : Result (List ℕ) SqlBuilderError). IfOk made (λ text. EndsInOneSemicolon (tokens text))) c.in_ok-run.ensures.text
    (ends_in_semicolon start calls finish is (fit_texts_balanced start calls finish (sym c.in_ok-check.ensures.fit)))

pub returns-clause-clauses : goal.returns-clause-clauses
returns-clause-clauses c = λ bare.
    c.in_ok-run.ensures.clauses bare
    (fit_fragments (start_view c.args.start.now) (map call_view c.args.calls.now) (finish_view c.args.finish.now) bare (sym c.in_ok-check.ensures.fit))

pub returns-clause-truth : goal.returns-clause-truth
returns-clause-truth c = λ prints.
    let start = start_view c.args.start.now in
    let calls = map call_view c.args.calls.now in
    let finish = finish_view c.args.finish.now in
    c.in_ok-run.ensures.truth prints
    (fit_fragments start calls finish (where_unenclosed finish (kind_of start) prints) (sym c.in_ok-check.ensures.fit))
    (fit_conditions start calls finish (sym c.in_ok-check.ensures.fit))

pub returns-clause-nests : goal.returns-clause-nests
returns-clause-nests c =
    c.in_ok-run.ensures.nests
    (balanced_fragments (start_view c.args.start.now) (map call_view c.args.calls.now) (finish_view c.args.finish.now) (sym c.in_ok-check.ensures.fit))

pub returns-clause-nests_as_table : goal.returns-clause-nests_as_table
returns-clause-nests_as_table c = λ table.
    c.in_ok-run.ensures.nests_as_table table
    (balanced_fragments (start_view c.args.start.now) (map call_view c.args.calls.now) (finish_view c.args.finish.now) (sym c.in_ok-check.ensures.fit))

pub returns-clause-fit : goal.returns-clause-fit
returns-clause-fit c = sym c.in_ok-check.ensures.fit

pub returns-clause-refused : goal.returns-clause-refused
returns-clause-refused c = rw (← c.in_ok-check.ensures.tests) tt

pub returns-in_err-run-clause-refused : goal.returns-in_err-run-clause-refused
returns-in_err-run-clause-refused c = rw (← c.in_ok-check.ensures.tests) tt
