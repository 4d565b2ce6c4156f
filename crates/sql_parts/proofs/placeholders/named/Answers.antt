use Rattle.sql_parts.proofs.Imports.{Some, arith, split_once_first}
use Rattle.sql_parts.proofs.templates.{named-some, some-by-test}
use Rattle.sql_parts.proofs.placeholders.named.Goals as goal

pub returns-else-is_empty : goal.returns-else-is_empty
returns-else-is_empty c =
    let first = split_once_first 58 c.args.behind.now (Some (c.in-Some.name, c.in-Some.rest)) c.in-Some.ensures.cases (omega arith) in
    named-some c.args.behind.now c.in-Some.name.now c.in-Some.rest.now first.0 first.1 first.2
    (some-by-test _ c.is_empty.result c.is_empty.ensures c.if-is_empty.false)
