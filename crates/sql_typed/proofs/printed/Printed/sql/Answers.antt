use Rattle.sql_typed.proofs.Imports.{string_bytes}
use Rattle.sql_typed.proofs.WholeLemmas.{whole_ends}
use Rattle.sql_typed.proofs.printed.Printed.sql.Goals as goal

pub returns-clause-semicolon : goal.returns-clause-semicolon
returns-clause-semicolon g c = whole_ends (string_bytes c.args.self.text) c.args.self.whole c.in_ok-push_str.ensures.bytes
