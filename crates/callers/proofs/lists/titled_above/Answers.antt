use Rattle.std.proofs.Common.{◌≡◌, refl, sym, ◌∙◌, ap, subst, List, [], ◌∷◌, ◌++◌, ℕ, true, codes, map, pos, string_bytes, append-nil, IfOk}
use Rattle.std.proofs.lemmas.Bool.{and_from}
use Rattle.sql_parts.specs.Operands.{ServesAsOperand}
use Rattle.sql_parts.specs.Text.{decimal_text}
use Rattle.sql_parts.specs.Tokens.{Str, tokens}
use Rattle.sql_builder.specs.Calls.{CallText, Cond, SelectFrom, Sql, call_view}
use Rattle.sql_builder.specs.declared.condition.Condition.TheVariants.{Compare}
use Rattle.sql_builder.specs.RawFragments.{has_fit_texts, is_fit}
use Rattle.sql_builder.specs.RawTexts.{Bare}
use Rattle.sql_builder.specs.Meaning.{HasTruthOf, condition_groups}
use Rattle.sql_builder.specs.declared.condition.Family.TheVariants.{And}
use Rattle.sql_builder.specs.declared.condition.Relation.TheVariants.{Eq, Gt}
use Rattle.callers.proofs.lists.titled_above.Goals as goal

-- the two conditions, each as a group
abbrev asked : List ℕ → List ℕ → List CallText
asked title price = Cond And (Compare Eq (codes "title") title) ∷ Cond And (Compare Gt (codes "price") price) ∷ []

-- an operand is a fit text
fit : (text : List ℕ) → ServesAsOperand text → is_fit (Bare text) ≡ true
fit text serves = and_from _ _ serves.is_balanced serves.no_clause_word

texts_fit : (title price : List ℕ) → is_fit (Bare title) ≡ true → is_fit (Bare price) ≡ true
    → has_fit_texts (SelectFrom (codes "books")) (asked title price) Sql ≡ true
texts_fit title price h k = and_from _ _ (and_from _ _ (and_from _ _ h refl) (and_from _ _ (and_from _ _ k refl) refl)) refl

groups_are : (title written price : List ℕ) → tokens written ≡ Str title ∷ []
    → condition_groups (asked written price) ≡ ((tokens (codes "title =") ++ Str title ∷ []) ∷ []) ∷ ((tokens (codes "price >") ++ tokens price) ∷ []) ∷ []
groups_are title written price is =
    λ i. ((tokens (codes "title =") ++ (is i ++ [])) ∷ []) ∷ ((tokens (codes "price >") ++ append-nil (tokens price) i) ∷ []) ∷ []

pub returns-clause-truth : goal.returns-clause-truth
returns-clause-truth c =
    let title = string_bytes c.in_ok-title.title in
    let price = decimal_text c.args.price in
    let calls : map call_view c.deref.result.now ≡ asked title price =
    rw (c.deref.ensures.value, c.in_ok-push-2.ensures.items, c.in_ok-push.ensures.items, c.new-calls.ensures.items)
    (rw (c.in_ok-field.ensures.ok, c.in_ok-field-2.ensures.ok, c.in_ok-price.ensures.text) refl) in
    let law = c.literals_are_operands.ensures in
    let quoted = fit title (subst ServesAsOperand (sym c.in_ok-title.ensures.text) (law.quote c.args.title.now)) in
    let fits = (λ i. has_fit_texts (SelectFrom (c.in_ok-from_str.ensures.ok i)) (calls i) Sql)
    ∙ texts_fit title price quoted (fit price (law.numbers (pos c.args.price))) in
    let start = SelectFrom (string_bytes c.in_ok-from_str.field-0) in
    let made = map call_view c.deref.result.now in
    let texts = c.fit_texts_make_fit_fragments.ensures in
    subst (λ groups. IfOk c.run.result (λ s. HasTruthOf groups (string_bytes s)))
    (ap condition_groups calls ∙ groups_are c.args.title.now title price c.in_ok-title.ensures.token)
    (c.run.ensures.truth refl (texts.fragments start made Sql refl fits) (texts.conditions start made Sql fits))
