use Rattle.std.proofs.Common.{◌↔◌, length}
use Rattle.database_readers.specs.AsMeant.{in_string, reader_of}
use Rattle.database_readers.specs.EmptyValues.{IsInsideAtEmptyValues}
use Rattle.database_readers.proofs.Database.reads_as_meant.Given as goal

abbrev pub invariant-loop-byte : goal.invariant-loop-byte
invariant-loop-byte l =
    let Opens = IsInsideAtEmptyValues (reader_of l.self) (in_string l.self) in
    Opens l.state l.rest ↔ Opens 0 l.text

abbrev pub decreases-loop-byte : goal.decreases-loop-byte
decreases-loop-byte l = length l.rest
