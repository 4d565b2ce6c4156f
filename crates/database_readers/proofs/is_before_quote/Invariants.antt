use Rattle.std.proofs.Common.{◌↔◌, length}
use Rattle.database_readers.specs.EmptyValues.{IsBeforeQuote}
use Rattle.database_readers.proofs.is_before_quote.Given as goal

abbrev pub invariant-loop-behind : goal.invariant-loop-behind
invariant-loop-behind l = IsBeforeQuote l.rest ↔ IsBeforeQuote l.text

abbrev pub decreases-loop-behind : goal.decreases-loop-behind
decreases-loop-behind l = length l.rest
