use Rattle.sql_builder.proofs.Imports.{◌++◌, ℕ, arith, codes, length-append, the_view}
use Rattle.sql_builder.specs.{byte_units, comma_list, inserted_bytes, optional_bytes}
use Rattle.sql_builder.proofs.output.{insert_is, prints_both}
use Rattle.sql_builder.proofs.builder.SqlBuilder.push_insert.Goals as goal

pub returns : goal.returns
returns g c =
    let r = the_view c.self.inside in
    rw (← c.self.view_is) (rw (insert_is r)
    (prints_both g.O.Out.printed g.O.Out.room (codes "INSERT INTO " ++ r.table) _ c.args.out.now c.push_clause.new.out c.push_optional.new.out
    (rw (c.as_str.ensures.value) at c.push_clause.ensures)
    (prints_both g.O.Out.printed g.O.Out.room (codes " (" ++ comma_list byte_units r.fields) _ c.push_clause.new.out c.push_list.new.out c.push_optional.new.out
    c.push_list.ensures
    (prints_both g.O.Out.printed g.O.Out.room (inserted_bytes r.query r.rows) (optional_bytes (codes " RETURNING ") r.returning) c.push_list.new.out c.push_clause-2.new.out
    c.push_optional.new.out
    (rw (c.inserted.ensures, ← c.self.view_is) at c.push_clause-2.ensures) c.push_optional.ensures))))

pub push_clause-requires-2 : goal.push_clause-requires-2
push_clause-requires-2 g c =
    let whole = simp length-append at (rw (insert_is (the_view c.self.inside)) at (rw (← c.self.view_is) at c.requires.room)) in
    let first = rw (c.as_str.ensures.value) at c.push_clause.ensures in
    record { room = rw (c.inserted.ensures, ← c.self.view_is) (omega (arith, length-append {A = ℕ}, whole, first.1, c.push_list.ensures.1)) }
