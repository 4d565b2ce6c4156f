use Rattle.sql_builder.proofs.Imports.{IfOk, List, map, Result, subst, sym, ℕ, tokens, SqlBuilderError}
use Rattle.sql_builder.specs.{call_view, finish_view, start_view, EndsInOneSemicolon}
use Rattle.sql_builder.proofs.fragments.InvalidTextLemmas.{balanced_fragments}
use Rattle.sql_builder.proofs.fragments.{closed_fragments, ends_in_semicolon}
use Rattle.sql_builder.proofs.checks.run_confined.Goals as goal

pub returns-clause-shape : goal.returns-clause-shape
returns-clause-shape c =
    c.in_ok-run.ensures.shape
    (closed_fragments (start_view c.args.start.now) (map call_view c.args.calls.now) (finish_view c.args.finish.now)
    (sym c.in_ok-check_confined.ensures.balanced))

pub returns-clause-closed : goal.returns-clause-closed
returns-clause-closed c =
    c.in_ok-run.ensures.closed
    (closed_fragments (start_view c.args.start.now) (map call_view c.args.calls.now) (finish_view c.args.finish.now)
    (sym c.in_ok-check_confined.ensures.balanced))

pub returns-clause-semicolon : goal.returns-clause-semicolon
returns-clause-semicolon c = λ is.
    subst (λ (made : Result (List ℕ) SqlBuilderError). IfOk made (λ text. EndsInOneSemicolon (tokens text))) c.in_ok-run.ensures.text
    (ends_in_semicolon (start_view c.args.start.now) (map call_view c.args.calls.now) (finish_view c.args.finish.now) is
    (sym c.in_ok-check_confined.ensures.balanced))

pub returns-clause-nests : goal.returns-clause-nests
returns-clause-nests c =
    c.in_ok-run.ensures.nests
    (balanced_fragments (start_view c.args.start.now) (map call_view c.args.calls.now) (finish_view c.args.finish.now)
    (sym c.in_ok-check_confined.ensures.balanced))

pub returns-clause-nests_as_table : goal.returns-clause-nests_as_table
returns-clause-nests_as_table c = λ table.
    c.in_ok-run.ensures.nests_as_table table
    (balanced_fragments (start_view c.args.start.now) (map call_view c.args.calls.now) (finish_view c.args.finish.now)
    (sym c.in_ok-check_confined.ensures.balanced))

pub returns-clause-balanced : goal.returns-clause-balanced
returns-clause-balanced c = sym c.in_ok-check_confined.ensures.balanced

pub returns-clause-refused : goal.returns-clause-refused
returns-clause-refused c = rw (← c.in_ok-check_confined.ensures.tests) tt

pub returns-in_err-run-clause-refused : goal.returns-in_err-run-clause-refused
returns-in_err-run-clause-refused c = rw (← c.in_ok-check_confined.ensures.tests) tt
