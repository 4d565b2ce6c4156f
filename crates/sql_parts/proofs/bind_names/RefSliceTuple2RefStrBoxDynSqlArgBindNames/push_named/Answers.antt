use Rattle.std.proofs.Common.{◌∙◌, ap}
use Rattle.sql_parts.specs.Pairs.{last_value}
use Rattle.sql_parts.proofs.bind_names.RefSliceTuple2RefStrBoxDynSqlArgBindNames.push_named.Goals as goal

pub value_by-requires : goal.value_by-requires
value_by-requires g c = rw c.whole.ensures c.requires

pub returns-clause-literal : goal.returns-clause-literal
returns-clause-literal g c =
    let found = c.value_by.ensures ∙ ap (last_value c.args.name.now) c.whole.ensures in
    rw found at c.push_found.ensures.literal
