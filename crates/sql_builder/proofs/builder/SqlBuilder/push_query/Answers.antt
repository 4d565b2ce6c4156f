use Rattle.sql_builder.proofs.Imports.{◌++◌}
use Rattle.sql_builder.specs.{query_end, query_start, where_bytes}
use Rattle.sql_builder.proofs.output.{query_is, prints_both, room_rest}
use Rattle.sql_builder.proofs.builder.SqlBuilder.push_query.Goals as goal

pub push_query_end-requires : goal.push_query_end-requires
push_query_end-requires g c =
    let r = c.args.self.now in
    record {
      room = room_rest g.O.Out.printed g.O.Out.room (where_bytes r.groups) (query_end r) c.push_query_start.new.out c.push_where.new.out
          (room_rest g.O.Out.printed g.O.Out.room (query_start r) (where_bytes r.groups ++ query_end r) c.args.out.now c.push_query_start.new.out
          (rw (query_is r) at c.requires.room) c.push_query_start.ensures)
          (rw (← c.self.view_is) (rw (c.deref.ensures.value) at c.push_where.ensures));
    }

pub returns : goal.returns
returns g c =
    let r = c.args.self.now in
    let out = c.push_query_end.new.out in
    rw (query_is r)
    (prints_both g.O.Out.printed g.O.Out.room (query_start r) _ c.args.out.now c.push_query_start.new.out out c.push_query_start.ensures
    (prints_both g.O.Out.printed g.O.Out.room (where_bytes r.groups) _ c.push_query_start.new.out c.push_where.new.out out
    (rw (← c.self.view_is) (rw (c.deref.ensures.value) at c.push_where.ensures)) c.push_query_end.ensures))
