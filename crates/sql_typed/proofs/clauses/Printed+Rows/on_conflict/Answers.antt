use Rattle.sql_typed.proofs.Imports.{◌∙◌, ◌++◌, ap, append_assoc, codes, map, string_bytes, subst, sym, join_with, Continues, is_whole}
use Rattle.sql_typed.proofs.WholeLemmas.{conflict_given, listed_whole}
use Rattle.sql_typed.proofs.clauses.Printed+Rows.on_conflict.Goals as goal

pub followed-requires-clause-text : goal.followed-requires-clause-text
followed-requires-clause-text g c = ap is_whole (c.as_str.ensures ∙ ap (join_with (codes ", ")) c.in_ok-list.ensures.list)
    ∙ listed_whole g.F.ToText.text g.met.F.OperandText.serves_as_operand c.args.columns.now

pub returns : goal.returns
returns g c =
    let columns = map g.F.ToText.text c.args.columns.now in
    let text = string_bytes c.args.self.text in
    let words = codes " ON CONFLICT (" in
    record {
      text = subst (Continues c.ended-2.result) (ap (λ t. t ++ codes ")")
          (c.in_ok-printed.ensures.text ∙ ap (λ t. text ++ (words ++ t)) (c.as_str.ensures ∙ ap (join_with (codes ", ")) c.in_ok-list.ensures.list))
          ∙ append_assoc text (words ++ join_with (codes ", ") columns) (codes ")")
          ∙ ap (λ t. text ++ t) (conflict_given g.F.ToText.text c.args.columns.now (sym c.is_empty.ensures ∙ c.if-is_empty.false)))
          c.ended-2.ensures.text;
    }
