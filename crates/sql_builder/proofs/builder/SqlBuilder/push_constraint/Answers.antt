use Rattle.std.proofs.Common.{◌≢◌, codes, length, refl, rules}
use Rattle.sql_builder.specs.Concat.{concat_bytes}
use Rattle.sql_builder.proofs.output.LoopFacts.{printed_extended}
use Rattle.sql_builder.proofs.builder.SqlBuilder.push_constraint.Goals as goal

pub print-requires : goal.print-requires
print-requires c =
    let joins = c.self.inside.joins in
    let some : length joins ≢ 0 = search rules in
    record { printed = rw (c.of-joins.ensures, c.of-added.ensures) (printed_extended (codes " ") (concat_bytes c.args.parts.now) joins some) }

pub returns-clause-done : goal.returns-clause-done
returns-clause-done c = rw (← c.self.view_is, c.in_ok-print.ensures.done, c.of-joins.ensures, c.of-added.ensures, c.requires.on) refl
