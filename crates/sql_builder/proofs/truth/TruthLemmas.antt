-- The truth of conditions by how they are made, of lists of tokens as their definitions read them.
use Rattle.sql_builder.proofs.Imports.{◌≡◌, refl, sym, ◌∙◌, ap, Bool, true, false, not, ◌&&◌, List, [], ◌∷◌, pos, list_all, list_any, and_parts, and_from}
use Rattle.sql_builder.proofs.Imports.{false≢true, not-true, not_from_false, is_clause_word, is_joining, at_top_level, Token, is_empty, closes_from}
use Rattle.sql_builder.proofs.Imports.{has_top_level, has_top_level-is, is_balanced-is, is_even, is_operand-is, placed, placed-is, in_brackets}
use Rattle.sql_parts.specs.Fragments as fragments
use Rattle.sql_builder.specs.{BracketsMakeOperands, TruthOfAnd, TruthOfBrackets, TruthOfNot, TruthOfOr, TruthOfWhere, is_fit_group, is_and, is_or, owns_next}
use Rattle.sql_builder.proofs.tokens.{balanced_even, even_closes, is_operand-brackets, no_clause-brackets, at_end-closes, are_groups, is_condition, is_group}
use Rattle.sql_builder.proofs.truth.ConnectiveLemmas.{no_and, no_or, truth_and, truth_brackets, truth_not, truth_or, without_owned-all}
use Rattle.sql_builder.proofs.truth.WhereLemmas.{truth_where}

even : (ts : List Token) → fragments.is_balanced ts ≡ true → is_even ts ≡ true
even ts h = balanced_even ts (sym (is_balanced-is ts) ∙ h)

closes : (ts : List Token) → fragments.is_balanced ts ≡ true → closes_from (pos 0) ts ≡ true
closes ts h = even_closes ts (even ts h)

none : (test : Token → Bool) (ts : List Token) → not (fragments.has_top_level test ts) ≡ true → has_top_level test ts ≡ false
none test ts h = sym (has_top_level-is test ts) ∙ not-true _ h

pub of_or : TruthOfOr
of_or facts one other h = truth_or facts one other (at_end-closes (pos 0) one (closes one h))

pub of_and : TruthOfAnd
of_and facts one other h k =
    let both = and_parts (fragments.is_balanced one && not (fragments.has_top_level is_or one)) (not (owns_next false (fragments.placed one))) h in
    let first = and_parts (fragments.is_balanced one) (not (fragments.has_top_level is_or one)) both.0 in
    truth_and facts one other (at_end-closes (pos 0) one (closes one first.0)) (none is_or one first.1)
    (ap (owns_next false) (sym (placed-is one)) ∙ not-true _ both.1) (none is_or other k)

pub of_not : TruthOfNot
of_not facts negated h =
    let plain = none is_joining negated h in
    truth_not facts negated (no_or (placed negated) plain) (ap (list_any (at_top_level is_and)) (without_owned-all (placed negated) plain)
    ∙ no_and (placed negated) plain)

pub of_brackets : TruthOfBrackets
of_brackets facts inner h =
    let both = and_parts (fragments.is_balanced inner) (not (fragments.has_top_level is_clause_word inner)) h in
    truth_brackets facts inner (closes inner both.0) (none is_clause_word inner both.1)

condition : (ts : List Token) → (fragments.is_balanced ts && not (fragments.has_top_level is_clause_word ts)) ≡ is_condition ts
condition ts = λ i. is_balanced-is ts i && not (has_top_level-is is_clause_word ts i)

conditions : (cs : List (List Token)) → list_all (λ (ts : List Token). fragments.is_balanced ts && not (fragments.has_top_level is_clause_word ts)) cs ≡ true
    → list_all is_condition cs ≡ true
conditions cs h = (λ i. list_all (λ (ts : List Token). sym (condition ts) i) cs) ∙ h

group : (cs : List (List Token)) → is_fit_group cs ≡ true → is_group cs ≡ true
group [] h = absurd (false≢true h)
group (c ∷ cs) h = conditions (c ∷ cs) h

each_group : (gs : List (List (List Token))) → list_all is_fit_group gs ≡ true → list_all is_group gs ≡ true
each_group [] h = refl
each_group (g ∷ gs) h =
    let both = and_parts (is_fit_group g) (list_all is_fit_group gs) h in
    and_from _ _ (group g both.0) (each_group gs both.1)

some_groups : (gs : List (List (List Token))) → (not (is_empty gs) && list_all is_fit_group gs) ≡ true → are_groups gs ≡ true
unfolding are_groups
some_groups [] h = absurd (false≢true h)
some_groups (g ∷ gs) h = each_group (g ∷ gs) h

pub of_where : TruthOfWhere
of_where facts groups h = truth_where facts groups (some_groups groups h)

pub brackets_make_operands : BracketsMakeOperands
brackets_make_operands inner h =
    and_from _ _ (is_operand-is (in_brackets inner) ∙ is_operand-brackets inner (even inner h))
    (not_from_false _ (has_top_level-is is_clause_word (in_brackets inner) ∙ no_clause-brackets inner (even inner h)))
