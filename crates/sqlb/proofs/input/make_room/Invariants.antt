use Rattle.std.proofs.Common.{◌≡◌, ◌+◌, ◌-◌, ◌≤◌, take, vec_len}
use Rattle.sqlb.proofs.input.make_room.Given as goal

abbrev pub invariant-loop-buffer : goal.invariant-loop-buffer
invariant-loop-buffer l = (l.filled ≤ vec_len l.buffer) × (take l.filled l.buffer.items ≡ take l.filled l.initial.buffer.items)

abbrev pub decreases-loop-buffer : goal.decreases-loop-buffer
decreases-loop-buffer l = l.filled + 65536 - vec_len l.buffer
