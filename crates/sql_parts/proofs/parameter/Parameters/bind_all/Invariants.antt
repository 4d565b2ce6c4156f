use Rattle.std.proofs.Common.{◌≡◌, ◌++◌, ◌+◌, ◌≤◌, length, take, vec_capacity, vec_len}
use Rattle.sql_parts.specs.Parameters.{placeholders_behind}
use Rattle.sql_parts.proofs.parameter.Parameters.bind_all.Given as goal

abbrev pub invariant-loop-value : goal.invariant-loop-value
invariant-loop-value g l = record {
  style : l.self.style ≡ l.initial.self.style;
  values : l.self.values.items ≡ l.initial.self.values.items ++ take l.value-index l.given;
  places : l.places.items ≡ placeholders_behind l.initial.self.style (length l.initial.self.values.items) (take l.value-index l.given);
  values_room : vec_len l.self.values + length l.given ≤ vec_capacity l.self.values + l.value-index;
  places_len : vec_len l.places ≡ l.value-index;
  places_room : length l.given ≤ vec_capacity l.places;
}
