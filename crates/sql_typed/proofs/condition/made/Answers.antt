use Rattle.sql_builder.specs.Condition.{borrowed_view}
use Rattle.sql_typed.proofs.ConditionLemmas.{condition_made}
use Rattle.sql_typed.proofs.condition.made.Goals as goal

pub invariant_of-result : goal.invariant_of-result
invariant_of-result g c =
    let made = condition_made (borrowed_view g.T.Texts.left c.args.condition) c.requires.operands c.in_ok-text.ensures.text in record { fits = made.0 }

pub returns-clause-atom : goal.returns-clause-atom
returns-clause-atom g c = (condition_made (borrowed_view g.T.Texts.left c.args.condition) c.requires.operands c.in_ok-text.ensures.text).1
