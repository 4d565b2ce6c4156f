use Rattle.sql_typed.proofs.Imports.{◌∙◌, ap, tokens, truth, negation_truth, string_bytes, is_fragment, negation_text, negation_fragment}
use Rattle.sql_typed.proofs.condition.not.Goals as goal

pub invariant_of-result : goal.invariant_of-result
invariant_of-result c = record {
  fits = ap is_fragment (c.in_ok-text.ensures.text ∙ ap negation_text c.as_str.ensures.value)
      ∙ negation_fragment (string_bytes c.args.condition.now.text) c.args.condition.now.fits;
}

pub returns-clause-truth : goal.returns-clause-truth
returns-clause-truth c =
    let condition = c.args.condition.now in
    λ facts. ap (λ text. truth facts (tokens text)) (c.in_ok-text.ensures.text ∙ ap negation_text c.as_str.ensures.value)
    ∙ negation_truth (string_bytes condition.text) condition.fits facts
