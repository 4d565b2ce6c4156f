use Rattle.sql_typed.proofs.PrintLemmas.{borrowed}
use Rattle.sql_typed.proofs.statement.Statement.clauses.Goals as goal

pub returns : goal.returns
returns g c = borrowed c.self.view_is c.deref.ensures c.self.invariant.0
