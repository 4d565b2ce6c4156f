use Rattle.sql_typed.proofs.Imports.{◌≡◌, ◌∙◌, arith, common_steps, may_begin_bracketed}
use Rattle.sql_typed.proofs.BracketLemmas.{bracket_found}
use Rattle.sql_typed.proofs.condition.may_begin_bracketed.Goals as goal

pub returns-else-begins_at_front-clause-found : goal.returns-else-begins_at_front-clause-found
returns-else-begins_at_front-clause-found c =
    let same : c.starts_with-dashes.result ≡ may_begin_bracketed c.args.text.now = grind (arith, common_steps) in
    λ is. same ∙ bracket_found c.args.text.now is
