use Rattle.sql_typed.proofs.Imports.{◌∙◌, ap, subst, sym, false, tokens, IsAtom, exists_is_atom, string_bytes, is_fragment, exists_text, exists_fragment}
use Rattle.sql_typed.proofs.condition.exists.Goals as goal

pub invariant_of-result : goal.invariant_of-result
invariant_of-result c =
    let query = c.args.query.now in
    record { fits = ap is_fragment (c.in_ok-text.ensures.text ∙ ap (exists_text false) c.as_str.ensures.value) ∙ exists_fragment false (string_bytes query.text) query.fits }

pub returns-clause-atom : goal.returns-clause-atom
returns-clause-atom c =
    let query = c.args.query.now in
    subst (λ text. IsAtom (tokens text)) (sym (c.in_ok-text.ensures.text ∙ ap (exists_text false) c.as_str.ensures.value))
    (exists_is_atom (string_bytes query.text) query.fits)
