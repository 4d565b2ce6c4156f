use Rattle.std.proofs.Common.{◌≡◌, length}
use Rattle.sql_parts.specs.Readers.{after}
use Rattle.database_readers.specs.AsMeant.{reader_of}
use Rattle.database_readers.proofs.Database.state.Given as goal

abbrev pub invariant-loop-byte : goal.invariant-loop-byte
invariant-loop-byte l = after (reader_of l.self) l.state l.rest ≡ after (reader_of l.self) 0 l.text

abbrev pub decreases-loop-byte : goal.decreases-loop-byte
decreases-loop-byte l = length l.rest
