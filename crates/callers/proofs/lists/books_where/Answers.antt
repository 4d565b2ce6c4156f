use Rattle.sql_builder.specs.RawTexts.{Bare}
use Rattle.std.proofs.Common.{IfOk, ◌≡◌, refl, sym, ◌∙◌, ap, subst, List, [], ◌∷◌, ℕ, Bool, true, false, not, codes, string_bytes, append-nil}
use Rattle.std.proofs.lemmas.Bool.{and_from}
use Rattle.sql_parts.specs.Fragments.{balanced, has_clause_word}
use Rattle.sql_builder.specs.Calls.{CallText, Cond, SelectFrom, Sql}
use Rattle.sql_builder.specs.declared.condition.Condition.TheVariants.{Raw}
use Rattle.sql_builder.specs.RawFragments.{has_fit_texts, is_fit}
use Rattle.sql_builder.specs.Meaning.{HasTruthOf, condition_groups}
use Rattle.sql_builder.specs.declared.condition.Family.TheVariants.{And}
use Rattle.sql_parts.specs.Tokens.{tokens}
use Rattle.callers.proofs.lists.books_where.Goals as goal

-- what the two tests said of a text
asked : (text : List ℕ) (fits words : Bool) → fits ≡ balanced text → fits ≡ true → words ≡ has_clause_word text → words ≡ false → is_fit (Bare text) ≡ true
asked text fits words is holds are none = and_from _ _ (sym is ∙ holds) (ap not (sym are ∙ none))

-- the two conditions, each as a group
abbrev both : List ℕ → List ℕ → List CallText
both one other = Cond And (Raw one) ∷ Cond And (Raw other) ∷ []

texts_fit : (one other : List ℕ) → is_fit (Bare one) ≡ true → is_fit (Bare other) ≡ true
    → has_fit_texts (SelectFrom (codes "books")) (both one other) Sql ≡ true
texts_fit one other h k = and_from _ _ (and_from _ _ (and_from _ _ h refl) (and_from _ _ (and_from _ _ k refl) refl)) refl

groups_are : (one other : List ℕ) → condition_groups (both one other) ≡ (tokens one ∷ []) ∷ (tokens other ∷ []) ∷ []
groups_are one other = λ i. (append-nil (tokens one) i ∷ []) ∷ (append-nil (tokens other) i ∷ []) ∷ []

pub returns-clause-truth : goal.returns-clause-truth
returns-clause-truth c =
    let one = c.args.one.now in
    let other = c.args.other.now in
    let made = both (string_bytes c.in_ok-first.first) (string_bytes c.in_ok-second.second) in
    let calls : made ≡ both one other = λ i. both (c.in_ok-first.ensures.ok i) (c.in_ok-second.ensures.ok i) in
    let first = asked one c.is_balanced.result c.has_clause_word.result c.is_balanced.ensures c.if-not-is_balanced.false c.has_clause_word.ensures
    c.if-has_clause_word.false in
    let second = asked other c.is_balanced-else-has_clause_word.result c.has_clause_word-else-not-is_balanced-2.result
    c.is_balanced-else-has_clause_word.ensures c.if-not-is_balanced-2.false c.has_clause_word-else-not-is_balanced-2.ensures c.if-has_clause_word-2.false in
    let fit = (λ i. has_fit_texts (SelectFrom (c.in_ok-from_str.ensures.ok i)) (calls i) Sql) ∙ texts_fit one other first second in
    let start = SelectFrom (string_bytes c.in_ok-from_str.field-0) in
    let law = c.fit_texts_make_fit_fragments.ensures in
    subst (λ groups. HasTruthOf groups (string_bytes c.in_ok-run.field-0)) (ap condition_groups calls ∙ groups_are one other)
    (c.in_ok-run.ensures.truth refl (law.fragments start made Sql refl fit) (law.conditions start made Sql fit))

pub returns-clause-text : goal.returns-clause-text
returns-clause-text c =
    let made = rw (c.in_ok-first.ensures.ok, c.in_ok-second.ensures.ok, c.in_ok-from_str.ensures.ok) at c.in_ok-run.ensures.text in
    subst (λ r. IfOk r (λ text. string_bytes c.in_ok-run.field-0 ≡ text)) (sym made) refl
