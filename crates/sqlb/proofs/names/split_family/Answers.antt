use Rattle.std.proofs.Common.{◌∙◌, ◌++◌, ap, ap₂, codes, sym}
use Rattle.sqlb.specs.Names.{either_family, without_prefix}
use Rattle.sqlb.proofs.outcomes.PrefixFacts.{without_prefix-found, without_prefix-none}
use Rattle.sqlb.proofs.names.split_family.Goals as goal

pub returns-in-Some : goal.returns-in-Some
returns-in-Some c =
    let found = c.in-Some.ensures.cases in
    let said = found.1.1 ∙ ap (λ rest. codes "and_where" ++ rest) (sym found.2) in
    ap (λ and_where. either_family and_where (without_prefix (codes "or_where") c.args.name.now))
    (without_prefix-found (codes "and_where") c.in-Some.ending.now c.args.name.now said)

pub returns-in_err-ending : goal.returns-in_err-ending
returns-in_err-ending c =
    let no_and = without_prefix-none (codes "and_where") c.args.name.now c.in_default.ensures.cases in
    rw c.from_residual.ensures (ap₂ either_family no_and (without_prefix-none (codes "or_where") c.args.name.now c.in_err-ending.ensures.cases))

pub returns : goal.returns
returns c =
    let found = c.in_ok-ending.ensures.cases in
    let said = found.1.1 ∙ ap (λ rest. codes "or_where" ++ rest) (sym found.2) in
    let no_and = without_prefix-none (codes "and_where") c.args.name.now c.in_default.ensures.cases in
    ap₂ either_family no_and (without_prefix-found (codes "or_where") c.in_ok-ending.ending.now c.args.name.now said)
