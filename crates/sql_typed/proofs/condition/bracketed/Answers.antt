use Rattle.sql_typed.proofs.Imports.{◌∙◌, ◌++◌, ap, subst, sym, ServesAsOperand, byte_units, in_brackets}
use Rattle.sql_typed.proofs.BracketLemmas.{brackets_serve}
use Rattle.sql_typed.proofs.condition.bracketed.Goals as goal

pub of_built-requires : goal.of_built-requires
of_built-requires c =
    let operand = c.args.operand.now in
    record {
      fits = subst ServesAsOperand (sym (c.in_ok-push_bracketed.ensures ∙ ap (λ text. text ++ in_brackets byte_units operand) c.new-text.ensures.bytes))
          (brackets_serve operand c.requires.balanced);
    }
