use Rattle.std.proofs.Common.{codes, refl}
use Rattle.sql_builder.specs.Calls.{Cond, SetStr, SetTo, Sql, UpdateTable}
use Rattle.sql_builder.specs.declared.condition.Condition.TheVariants.{Compare}
use Rattle.sql_builder.specs.declared.condition.Family.TheVariants.{And}
use Rattle.sql_builder.specs.declared.condition.Relation.TheVariants.{Lt}
use Rattle.sql_parts.specs.Text.{decimal_text}
use Rattle.sql_builder.proofs.for_callers.ChainLemmas.{chain_call, chain_start, chain_text}
use Rattle.callers.proofs.chains.repriced.Goals as goal

pub returns-clause-text : goal.returns-clause-text
returns-clause-text c =
    let made = chain_call (Cond And (Compare Lt (codes "price") (decimal_text c.args.most))) c.in_ok-and_where_lt.ensures.changed
    (chain_call (SetTo (codes "price") (decimal_text c.args.price)) c.in_ok-set.ensures.changed
    (chain_call (SetStr (codes "title") c.args.title.now) c.in_ok-set_str.ensures.changed
    (chain_start (UpdateTable (codes "books")) c.in_ok-update_table.ensures.made))) in
    chain_text Sql c.sql.result made c.sql.ensures.text refl
