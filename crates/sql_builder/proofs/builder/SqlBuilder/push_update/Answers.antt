use Rattle.sql_builder.proofs.Imports.{◌++◌, codes, subst, sym, the_view}
use Rattle.sql_builder.specs.{Fits, Prints, byte_units, comma_list, optional_bytes, where_bytes}
use Rattle.sql_builder.proofs.output.{update_is, prints_both, room_first}
use Rattle.sql_builder.proofs.builder.SqlBuilder.push_update.Goals as goal

pub returns : goal.returns
returns g c =
    let r = the_view c.self.inside in
    rw (← c.self.view_is) (subst (λ bytes. Prints g.O.Out.printed g.O.Out.room c.args.out.now c.push_optional.new.out bytes) (sym (update_is r))
    (prints_both g.O.Out.printed g.O.Out.room (codes "UPDATE " ++ r.table) _ c.args.out.now c.push_clause.new.out c.push_optional.new.out
    (rw (c.as_str.ensures.value) at c.push_clause.ensures)
    (prints_both g.O.Out.printed g.O.Out.room (codes " SET " ++ comma_list byte_units r.sets) _ c.push_clause.new.out c.push_list.new.out c.push_optional.new.out
    c.push_list.ensures
    (prints_both g.O.Out.printed g.O.Out.room (where_bytes r.groups) (optional_bytes (codes " RETURNING ") r.returning) c.push_list.new.out c.push_where.new.out c.push_optional.new.out
    (rw (c.deref.ensures.value) at c.push_where.ensures) c.push_optional.ensures))))

pub push_clause-requires : goal.push_clause-requires
push_clause-requires g c =
    let r = the_view c.self.inside in
    let whole = subst (λ bytes. Fits (g.O.Out.room c.args.out.now) bytes) (update_is r) (rw (← c.self.view_is) at c.requires.room) in
    record { room = rw c.as_str.ensures.value (room_first g.O.Out.printed g.O.Out.room (codes "UPDATE " ++ r.table) _ c.args.out.now whole) }
