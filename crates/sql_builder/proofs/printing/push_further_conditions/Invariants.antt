use Rattle.sql_builder.proofs.Imports.{map, take}
use Rattle.sql_builder.specs.{condition_in_group, Prints, further_bytes}
use Rattle.sql_builder.proofs.printing.push_further_conditions.Given as goal

abbrev pub invariant-loop-condition : goal.invariant-loop-condition
invariant-loop-condition g l =
    Prints g.O.Out.printed g.O.Out.room l.initial.out l.out (further_bytes (map condition_in_group (take l.condition-index l.conditions)))
