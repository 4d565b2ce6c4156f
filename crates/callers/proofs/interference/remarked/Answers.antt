use Rattle.std.proofs.Common.{◌∙◌, [], ◌∷◌, List, ℕ, codes, false, refl}
use Rattle.sql_builder.specs.Calls.{CallText, Cond, SetStr, Sql, UpdateTable}
use Rattle.sql_builder.specs.declared.condition.Condition.TheVariants.{Like}
use Rattle.sql_parts.specs.StringTexts.{outline}
use Rattle.sql_builder.specs.declared.condition.Family.TheVariants.{And}
use Rattle.sql_builder.specs.declared.condition.Percent.TheVariants.{Any}
use Rattle.sql_builder.proofs.for_callers.ChainLemmas.{chain_answer, chain_call, chain_start, chain_statement}
use Rattle.callers.proofs.interference.remarked.Goals as goal

abbrev calls : List ℕ → List ℕ → List CallText
calls word remark = SetStr (codes "remark") remark ∷ Cond And (Like false Any (codes "title") word) ∷ []

pub returns-clause-statement : goal.returns-clause-statement
returns-clause-statement c =
    let made = chain_call (Cond And (Like false Any (codes "title") c.args.word.now)) c.in_ok-and_where_like_any.ensures.changed
    (chain_call (SetStr (codes "remark") c.args.remark.now) c.in_ok-set_str.ensures.changed
    (chain_start (UpdateTable (codes "books")) c.in_ok-update_table.ensures.made)) in
    chain_statement Sql c.sql.result made c.sql.ensures.text c.sql.ensures.error

pub returns-clause-same : goal.returns-clause-same
returns-clause-same c =
    let word = c.args.word.now in
    let remark = c.args.remark.now in
    let made = chain_call (Cond And (Like false Any (codes "title") word)) c.in_ok-and_where_like_any.ensures.changed
    (chain_call (SetStr (codes "remark") remark) c.in_ok-set_str.ensures.changed
    (chain_start (UpdateTable (codes "books")) c.in_ok-update_table.ensures.made)) in
    chain_answer Sql c.sql.result made c.sql.ensures.text c.sql.ensures.error outline
    (c.quoted_texts_do_not_interfere.ensures.outline (UpdateTable (codes "books")) (calls word remark) (calls [] []) Sql refl refl ∙ refl)
