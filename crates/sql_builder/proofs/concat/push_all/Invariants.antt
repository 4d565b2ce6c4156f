use Rattle.std.proofs.Common.{◌≡◌, ◌++◌, ◌≤◌, take}
use Rattle.std.specs.String.{string_bytes, string_capacity}
use Rattle.sql_builder.specs.Concat.{concat_bytes}
use Rattle.sql_builder.proofs.concat.push_all.Given as goal

abbrev pub invariant-loop-part : goal.invariant-loop-part
invariant-loop-part l =
    (string_bytes l.out ≡ string_bytes l.initial.out ++ concat_bytes (take l.part-index l.parts)) × (string_capacity l.initial.out ≤ string_capacity l.out)
