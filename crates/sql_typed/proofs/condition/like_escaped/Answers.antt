use Rattle.sql_typed.proofs.Imports.{◌∙◌, ap, refl, subst, sym, is_fragment, tokens, IsAtom, fits_as, like_fragment, like_is_atom}
use Rattle.sql_typed.proofs.ConditionLemmas.{like_printed}
use Rattle.sql_typed.proofs.condition.like_escaped.Goals as goal

pub invariant_of-result : goal.invariant_of-result
invariant_of-result g c =
    let field = g.F.ToText.text c.args.field in
    let mask = g.M.ToText.text c.args.mask in
    record {
      fits = ap is_fragment (like_printed c.args.negated field mask c.like_words.ensures c.in_ok-text.ensures.text c.in_ok-push_str.ensures.bytes)
          ∙ like_fragment c.args.negated field mask (fits_as refl (g.met.F.OperandText.serves_as_operand c.args.field))
          (fits_as refl (g.met.M.OperandText.serves_as_operand c.args.mask));
    }

pub returns-clause-atom : goal.returns-clause-atom
returns-clause-atom g c =
    let field = g.F.ToText.text c.args.field in
    let mask = g.M.ToText.text c.args.mask in
    subst (λ text. IsAtom (tokens text))
    (sym (like_printed c.args.negated field mask c.like_words.ensures c.in_ok-text.ensures.text c.in_ok-push_str.ensures.bytes))
    (like_is_atom c.args.negated field mask (g.met.F.OperandText.serves_as_operand c.args.field) (g.met.M.OperandText.serves_as_operand c.args.mask))

pub returns-clause-text : goal.returns-clause-text
returns-clause-text g c =
    like_printed c.args.negated (g.F.ToText.text c.args.field) (g.M.ToText.text c.args.mask) c.like_words.ensures c.in_ok-text.ensures.text
    c.in_ok-push_str.ensures.bytes
