use Rattle.sql_parts.proofs.Imports.{◌≡◌, subst, sym, None, Some, if◌then◌else◌}
use Rattle.sql_parts.specs.{Cycle, resolve, resolved_from}
use Rattle.sql_parts.proofs.templates.{resolve-unsupplied}
use Rattle.sql_parts.proofs.substitution.lacks_arguments.Goals as goal

pub returns-then-count-eq0 : goal.returns-then-count-eq0
returns-then-count-eq0 c =
    let template = c.args.template.now in
    subst (λ count. resolve template (Cycle count) ≡ (if c.contains.result then None else Some (resolved_from (Cycle count) 0 0 template)))
    (sym c.if-count-eq0.true) (resolve-unsupplied template c.contains.result c.contains.ensures.cases)
