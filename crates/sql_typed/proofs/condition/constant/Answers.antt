use Rattle.sql_typed.proofs.Imports.{◌≡◌, rules, string_bytes, subst, sym, tokens, constant_text, IsAtom, constant_is_atom}
use Rattle.sql_typed.proofs.condition.constant.Goals as goal

pub returns-clause-atom : goal.returns-clause-atom
returns-clause-atom c =
    let is : string_bytes c.in_ok-text.text ≡ constant_text c.args.holds = search rules in
    subst (λ text. IsAtom (tokens text)) (sym is) (constant_is_atom c.args.holds)
