use Rattle.std.proofs.Common.{◌≡◌, ◌++◌, ◌<◌, ◌≤◌, ◌^◌, length, drop, decimal}
use Rattle.sqlb.proofs.output.write_digits.Given as goal

-- the digits of what is left precede those that are written
abbrev pub invariant-digits : goal.invariant-digits
invariant-digits l = (length l.digits ≡ 20) × (l.start ≤ 20) × (l.rest < 2 ^ 64) × (decimal l.rest ++ drop l.start l.digits ≡ decimal l.number)

abbrev pub decreases-digits : goal.decreases-digits
decreases-digits l = l.start
