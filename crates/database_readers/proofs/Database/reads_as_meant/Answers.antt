use Rattle.database_readers.specs.AsMeant.{in_string, reader_of}
use Rattle.database_readers.proofs.AsMeantLemmas.{at-end, statements-opened, templates-opened}
use Rattle.database_readers.proofs.Database.reads_as_meant.Goals as goal

pub returns-clause-statements : goal.returns-clause-statements
returns-clause-statements c =
    λ is. statements-opened c.args.self c.args.text.now
    (c.loop-byte.invariant.0 (at-end (reader_of c.args.self) (in_string c.args.self) c.loop-byte.state c.loop-byte.rest.now c.in_default.ensures.cases))

pub returns-clause-templates : goal.returns-clause-templates
returns-clause-templates c =
    λ is. templates-opened c.args.self c.args.text.now
    (c.loop-byte.invariant.0 (at-end (reader_of c.args.self) (in_string c.args.self) c.loop-byte.state c.loop-byte.rest.now c.in_default.ensures.cases))
