use Rattle.sql_builder.proofs.Imports.{◌≡◌, ◌+◌, ◌≤◌, length, map}
use Rattle.sql_builder.specs.{call_view, calls_test}
use Rattle.sql_builder.proofs.checks.test_calls.Given as goal

abbrev pub invariant-loop-rest : goal.invariant-loop-rest
invariant-loop-rest l = record {
  within : l.index + length l.rest ≤ length l.fn.calls;
  same : calls_test l.bare l.index l.encloses (map call_view l.rest) ≡ calls_test l.bare 0 l.encloses (map call_view l.fn.calls);
}

abbrev pub decreases-loop-rest : goal.decreases-loop-rest
decreases-loop-rest l = length l.rest
