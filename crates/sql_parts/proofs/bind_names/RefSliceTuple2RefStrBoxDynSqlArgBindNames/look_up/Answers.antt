use Rattle.std.proofs.Common.{◌∙◌, ap}
use Rattle.sql_parts.specs.Pairs.{last_value}
use Rattle.sql_parts.proofs.bind_names.RefSliceTuple2RefStrBoxDynSqlArgBindNames.look_up.Goals as goal

pub returns-clause-literal : goal.returns-clause-literal
returns-clause-literal g c =
    let found = c.last_value.ensures ∙ ap (last_value c.args.name.now) c.whole.ensures in
    rw found at c.found_text.ensures.literal
