use Rattle.std.proofs.Common.{◌++◌, codes}
use Rattle.sql_builder.specs.Layout.{byte_units, query}
use Rattle.sql_builder.proofs.output.LoopFacts.{prints_both}
use Rattle.sql_builder.proofs.builder.SqlBuilder.push_subquery_as.Goals as goal

pub returns : goal.returns
returns g c =
    let text = query byte_units c.args.self.now in
    let end = codes ") AS " ++ c.args.name.now in
    prints_both g.O.Out.printed g.O.Out.room (codes "(") (text ++ end) c.args.out.now c.push.new.self c.push_clause.new.out (c.push.ensures.printed, c.push.ensures.room)
    (prints_both g.O.Out.printed g.O.Out.room text end c.push.new.self c.push_query.new.out c.push_clause.new.out c.push_query.ensures c.push_clause.ensures)
