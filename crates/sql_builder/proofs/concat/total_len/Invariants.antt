use Rattle.std.proofs.Common.{◌≡◌, ◌-◌, ◌^◌, length, min, take}
use Rattle.sql_builder.specs.Concat.{concat_bytes}
use Rattle.sql_builder.proofs.concat.total_len.Given as goal

abbrev pub invariant-loop-part : goal.invariant-loop-part
invariant-loop-part l = l.len ≡ min (length (concat_bytes (take l.part-index l.parts))) (2 ^ 64 - 1)
