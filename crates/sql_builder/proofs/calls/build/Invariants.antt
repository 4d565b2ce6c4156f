use Rattle.sql_builder.proofs.Imports.{◌≡◌, map, take}
use Rattle.sql_builder.specs.{call_view, start_view, made_by}
use Rattle.sql_builder.proofs.calls.build.Given as goal

abbrev pub invariant-loop-call : goal.invariant-loop-call
invariant-loop-call l = l.builder ≡ made_by (start_view l.start) (map call_view (take l.call-index l.calls))
