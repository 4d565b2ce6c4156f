use Rattle.sql_typed.proofs.Imports.{◌∙◌, ap, string_bytes, true, is_fragment, tokens, exists_text, truth, exists_fragment, not_exists_truth}
use Rattle.sql_typed.proofs.condition.not_exists.Goals as goal

pub invariant_of-result : goal.invariant_of-result
invariant_of-result c =
    let query = c.args.query.now in
    record { fits = ap is_fragment (c.in_ok-text.ensures.text ∙ ap (exists_text true) c.as_str.ensures.value) ∙ exists_fragment true (string_bytes query.text) query.fits }

pub returns-clause-truth : goal.returns-clause-truth
returns-clause-truth c =
    let query = c.args.query.now in
    λ facts. ap (λ text. truth facts (tokens text)) (c.in_ok-text.ensures.text ∙ ap (exists_text true) c.as_str.ensures.value)
    ∙ not_exists_truth (string_bytes query.text) query.fits facts
