use Rattle.sql_typed.proofs.Imports.{◌∙◌, ◌++◌, ap, string_bytes, sym, byte_units, in_brackets, is_unit}
use Rattle.sql_typed.proofs.FilledLemmas.{in_hole_is}
use Rattle.sql_typed.proofs.template.for_hole.Goals as goal

pub returns-clause-text : goal.returns-clause-text
returns-clause-text c = in_hole_is (string_bytes c.args.text) _ (sym (c.is_unit.ensures ∙ ap is_unit c.as_str.ensures.value) ∙ c.if-is_unit.false)
    (c.in_ok-push_bracketed.ensures ∙ (λ i. c.in_ok-bracketed.ensures.bytes i ++ in_brackets byte_units (c.as_str-2.ensures.value i)))
