use Rattle.std.proofs.Common.{codes, refl}
use Rattle.sql_builder.specs.Calls.{Cond, Field, SelectFrom, Sql}
use Rattle.sql_builder.specs.declared.condition.Condition.TheVariants.{Compare}
use Rattle.sql_builder.specs.declared.condition.Family.TheVariants.{And}
use Rattle.sql_builder.specs.declared.condition.Relation.TheVariants.{Gt}
use Rattle.sql_parts.specs.Text.{decimal_text}
use Rattle.sql_builder.proofs.for_callers.ChainLemmas.{chain_call, chain_start, chain_statement, chain_text}
use Rattle.callers.proofs.chains.dearer.Goals as goal

pub returns-clause-text : goal.returns-clause-text
returns-clause-text c =
    let made = chain_call (Cond And (Compare Gt (codes "price") (decimal_text c.args.price))) c.in_ok-and_where_gt.ensures.changed
    (chain_call (Field (codes "title")) c.in_ok-field.ensures.changed
    (chain_start (SelectFrom (codes "books")) c.in_ok-select_from.ensures.made)) in
    chain_text Sql c.sql.result made c.sql.ensures.text refl

pub returns-clause-statement : goal.returns-clause-statement
returns-clause-statement c =
    let made = chain_call (Cond And (Compare Gt (codes "price") (decimal_text c.args.price))) c.in_ok-and_where_gt.ensures.changed
    (chain_call (Field (codes "title")) c.in_ok-field.ensures.changed
    (chain_start (SelectFrom (codes "books")) c.in_ok-select_from.ensures.made)) in
    chain_statement Sql c.sql.result made c.sql.ensures.text c.sql.ensures.error
