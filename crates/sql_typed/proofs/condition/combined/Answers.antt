use Rattle.sql_typed.proofs.Imports.{◌≡◌, ◌∙◌, ap, arith, if◌then◌else◌, map, string_bytes, subst, sym, common_steps, is_fragment, IsCombined, combined_text, and_all, or_all, combined_fragment}
use Rattle.sql_typed.proofs.ConditionLemmas.{combined_truth, conditions_fit}
use Rattle.sql_typed.proofs.condition.combined.Goals as goal

pub invariant_of-result : goal.invariant_of-result
invariant_of-result c =
    let texts = map (λ k. string_bytes k.text) c.args.conditions.now in
    let e : string_bytes c.in_ok-text-in-len1-up.text ≡ combined_text c.args.conjunction texts = grind (arith, common_steps) in
    record { fits = ap is_fragment e ∙ combined_fragment c.args.conjunction texts (conditions_fit c.args.conditions.now) }

pub returns-clause-truth : goal.returns-clause-truth
returns-clause-truth c =
    let texts = map (λ k. string_bytes k.text) c.args.conditions.now in
    let e : string_bytes c.in_ok-text-in-len1-up.text ≡ combined_text c.args.conjunction texts = grind (arith, common_steps) in
    subst (IsCombined (if c.args.conjunction then and_all else or_all) texts) (sym e) (combined_truth c.args.conjunction texts (conditions_fit c.args.conditions.now))
