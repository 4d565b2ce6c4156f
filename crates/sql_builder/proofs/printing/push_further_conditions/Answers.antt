use Rattle.sql_builder.proofs.Imports.{arith}
use Rattle.sql_builder.specs.{condition_in_group, further_condition}
use Rattle.sql_builder.proofs.output.{within_values}
use Rattle.sql_builder.proofs.printing.push_further_conditions.Goals as goal

pub push_further_condition-requires : goal.push_further_condition-requires
push_further_condition-requires g c =
    let all = within_values further_condition condition_in_group c.args.conditions.now c.loop-condition.condition-index c.condition-item.result
    c.loop-condition-test.true c.condition-item.is in
    record { room = omega (arith, all, c.loop-condition.invariant.1, c.requires.room) }
