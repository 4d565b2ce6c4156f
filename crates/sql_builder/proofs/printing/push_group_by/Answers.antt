use Rattle.sql_builder.proofs.Imports.{◌≢◌, ◌++◌, codes, length, rules}
use Rattle.sql_builder.specs.{byte_units, comma_list, optional_bytes}
use Rattle.sql_builder.proofs.output.{prints_both, some_group_fields}
use Rattle.sql_builder.proofs.printing.push_group_by.Goals as goal

pub returns-then-not-is_empty : goal.returns-then-not-is_empty
returns-then-not-is_empty g c =
    let fields = c.args.fields.now in
    let having = c.args.having.now in
    let some : length fields ≢ 0 = search rules in
    rw (some_group_fields fields having some)
    (prints_both g.O.Out.printed g.O.Out.room (codes " GROUP BY " ++ comma_list byte_units fields) (optional_bytes (codes " HAVING ") having) c.args.out.now c.push_list.new.out
    c.push_optional.new.out c.push_list.ensures c.push_optional.ensures)
