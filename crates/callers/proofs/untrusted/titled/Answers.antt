use Rattle.std.proofs.Common.{[], ◌∷◌, ◌++◌, codes, string_bytes, IfOk, refl, subst, sym}
use Rattle.std.proofs.lemmas.Bool.{and_from}
use Rattle.sql_builder.specs.Calls.{Cond, SelectFrom, Sql}
use Rattle.sql_builder.specs.declared.condition.Condition.TheVariants.{Compare}
use Rattle.sql_builder.specs.Meaning.{HasTruthOf, condition_groups}
use Rattle.sql_builder.specs.declared.condition.Family.TheVariants.{And}
use Rattle.sql_builder.specs.declared.condition.Relation.TheVariants.{Eq}
use Rattle.sql_builder.proofs.for_callers.ChainLemmas.{chain_call, chain_start, chain_closed, chain_statement, chain_tokens, one_semicolon}
use Rattle.sql_builder.proofs.statements.StatementLawLemmas.{of_statement, statements_have_truth}
use Rattle.sql_parts.specs.Operands.{ServesAsOperand}
use Rattle.sql_parts.specs.Tokens.{tokens}
use Rattle.callers.proofs.untrusted.titled.Goals as goal

pub returns-clause-tokens : goal.returns-clause-tokens
returns-clause-tokens c =
    let made = chain_call (Cond And (Compare Eq (codes "title") (string_bytes c.in_ok-title.title))) c.in_ok-and_where_eq.ensures.changed
    (chain_start (SelectFrom (codes "books")) c.in_ok-select_from.ensures.made) in
    chain_tokens Sql c.sql.result made c.sql.ensures.text c.sql.ensures.error (rw c.in_ok-title.ensures.closed refl) (rw c.in_ok-title.ensures.token refl)

pub returns-clause-closed : goal.returns-clause-closed
returns-clause-closed c =
    let made = chain_call (Cond And (Compare Eq (codes "title") (string_bytes c.in_ok-title.title))) c.in_ok-and_where_eq.ensures.changed
    (chain_start (SelectFrom (codes "books")) c.in_ok-select_from.ensures.made) in
    chain_closed Sql c.sql.result made c.sql.ensures.text c.sql.ensures.error (rw c.in_ok-title.ensures.closed refl)

pub returns-clause-semicolon : goal.returns-clause-semicolon
returns-clause-semicolon c = one_semicolon c.sql.result (returns-clause-tokens c) refl refl

pub returns-clause-truth : goal.returns-clause-truth
returns-clause-truth c =
    let start = SelectFrom (codes "books") in
    let calls = Cond And (Compare Eq (codes "title") (string_bytes c.in_ok-title.title)) ∷ [] in
    let made = chain_call (Cond And (Compare Eq (codes "title") (string_bytes c.in_ok-title.title))) c.in_ok-and_where_eq.ensures.changed
    (chain_start start c.in_ok-select_from.ensures.made) in
    let operand = subst ServesAsOperand (sym c.in_ok-title.ensures.text) (c.literals_are_operands.ensures.quote c.args.title.now) in
    let fits = and_from _ _ (and_from _ _ (and_from _ _ (and_from _ _ operand.is_balanced operand.no_clause_word) refl) refl) refl in
    let law = c.fit_texts_make_fit_fragments.ensures in
    subst (λ ts. IfOk c.sql.result (λ s. HasTruthOf (((tokens (codes "title =") ++ (ts ++ [])) ∷ []) ∷ []) (string_bytes s))) c.in_ok-title.ensures.token
    (of_statement start calls Sql (HasTruthOf (condition_groups calls)) c.sql.result
    (chain_statement Sql c.sql.result made c.sql.ensures.text c.sql.ensures.error)
    (statements_have_truth start calls Sql refl (law.fragments start calls Sql refl fits) (law.conditions start calls Sql fits)))
