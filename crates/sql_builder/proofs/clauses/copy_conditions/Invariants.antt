use Rattle.std.proofs.Common.{◌≡◌, length, map, take, vec_capacity, vec_len}
use Rattle.sql_builder.specs.Builder.{condition_in_group}
use Rattle.sql_builder.proofs.clauses.copy_conditions.Given as goal

abbrev pub invariant-loop-condition : goal.invariant-loop-condition
invariant-loop-condition l = record {
  texts : map condition_in_group l.copied.items ≡ map condition_in_group (take l.condition-index l.conditions);
  len : vec_len l.copied ≡ l.condition-index;
  capacity : vec_capacity l.copied ≡ length l.conditions;
}
