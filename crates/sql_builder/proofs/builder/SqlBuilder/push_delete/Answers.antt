use Rattle.sql_builder.proofs.Imports.{◌++◌, codes, subst, sym, the_view}
use Rattle.sql_builder.specs.{Fits, Prints, optional_bytes, where_bytes}
use Rattle.sql_builder.proofs.output.{delete_is, prints_both, room_rest}
use Rattle.sql_builder.proofs.builder.SqlBuilder.push_delete.Goals as goal

pub returns : goal.returns
returns g c =
    let r = the_view c.self.inside in
    rw (← c.self.view_is) (subst (λ bytes. Prints g.O.Out.printed g.O.Out.room c.args.out.now c.push_optional.new.out bytes) (sym (delete_is r))
    (prints_both g.O.Out.printed g.O.Out.room (codes "DELETE FROM " ++ r.table) _ c.args.out.now c.push_clause.new.out c.push_optional.new.out
    (rw (c.as_str.ensures.value) at c.push_clause.ensures)
    (prints_both g.O.Out.printed g.O.Out.room (where_bytes r.groups) (optional_bytes (codes " RETURNING ") r.returning) c.push_clause.new.out c.push_where.new.out c.push_optional.new.out
    (rw (c.deref.ensures.value) at c.push_where.ensures) c.push_optional.ensures)))

pub push_optional-requires : goal.push_optional-requires
push_optional-requires g c =
    let r = the_view c.self.inside in
    let text = codes "DELETE FROM " ++ r.table in
    let behind = optional_bytes (codes " RETURNING ") r.returning in
    let fits = subst (Fits (g.O.Out.room c.args.out.now)) (delete_is r) (rw (← c.self.view_is) at c.requires.room) in
    record {
      room = room_rest g.O.Out.printed g.O.Out.room (where_bytes r.groups) behind c.push_clause.new.out c.push_where.new.out
          (room_rest g.O.Out.printed g.O.Out.room text (where_bytes r.groups ++ behind) c.args.out.now c.push_clause.new.out fits (rw (c.as_str.ensures.value) at c.push_clause.ensures))
          (rw (c.deref.ensures.value) at c.push_where.ensures);
    }
