use Rattle.sql_builder.proofs.Imports.{◌≡◌, string_bytes, subst}
use Rattle.sql_builder.specs.{byte_units, subquery_as}
use Rattle.sql_builder.proofs.pieces.{subquery_as_closed, subquery_as_shape}
use Rattle.sql_builder.proofs.reading.{subquery_as_nests, subquery_as_table}
use Rattle.sql_builder.proofs.builder.SqlBuilder.subquery_as.Goals as goal

pub returns : goal.returns
returns g c =
    let r = c.args.self.now in
    let name = g.S.ToText.text c.args.name in
    let text = subst (λ name. string_bytes c.in_ok-query.query ≡ subquery_as byte_units name r) c.in_ok-name.ensures.text c.in_ok-query.ensures.text in
    record {
      text = text;
      shape = subquery_as_shape r _ name text;
      closed = subquery_as_closed r _ name text;
      nests = subquery_as_nests r _ name text;
      nests_as_table = subquery_as_table r _ name text;
      error = c.in_ok-query.ensures.error;
      memory = c.in_ok-query.ensures.memory;
    }
