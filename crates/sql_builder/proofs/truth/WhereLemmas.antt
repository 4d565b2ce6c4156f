-- The truth of a WHERE.
use Rattle.sql_builder.proofs.Imports.{◌≡◌, refl, sym, ◌∙◌, ap, true, false, not, List, [], ◌∷◌, map, pos, and_parts, false≢true, not-true, list_any, list_all}
use Rattle.sql_builder.proofs.Imports.{Token, in_brackets, closes_from, has_top_level, is_balanced, placed, is_joining, at_top_level}
use Rattle.sql_builder.specs.{joined, group_tokens, where_tokens, Fact, or3, or_all, is_or, and_all, and3, truth}
use Rattle.sql_builder.proofs.tokens.{is_condition, is_group, are_groups, and_word, has_clause, at_end-closes, is_condition-group, none-append}
use Rattle.sql_builder.proofs.truth.ConnectiveLemmas.{truth_or, truth_and, truth_brackets, none-brackets, at_end-brackets, placed-then, or3-False, and3-True}
use Rattle.sql_builder.proofs.truth.ConnectiveLemmas.{plain-owns}

pub condition_closes : (c : List Token) → is_condition c ≡ true → closes_from (pos 0) c ≡ true
condition_closes c h = (and_parts _ _ (and_parts _ _ (and_parts (is_balanced c) _ h).0).1).1

pub condition_no_clause : (c : List Token) → is_condition c ≡ true → has_clause c ≡ false
condition_no_clause c h = not-true _ (and_parts (is_balanced c) (not (has_clause c)) h).1

-- a group: the OR of its conditions
pub truth_group : (facts : List Fact) (c : List Token) (cs : List (List Token)) → list_all is_condition (c ∷ cs) ≡ true → truth facts (group_tokens (c ∷ cs))
    ≡ or_all (map (truth facts) (c ∷ cs))
truth_group facts c [] h = sym (or3-False (truth facts c))
truth_group facts c (d ∷ cs) h =
    let both = and_parts (is_condition c) (list_all is_condition (d ∷ cs)) h in
    truth_or facts c (group_tokens (d ∷ cs)) (at_end-closes (pos 0) c (condition_closes c both.0))
    ∙ ap (or3 (truth facts c)) (truth_group facts d cs both.1)

abbrev pub bracketed_groups : List (List (List Token)) → List (List Token)
bracketed_groups gs = map (λ g. in_brackets (group_tokens g)) gs

is_group_closes : (g : List (List Token)) → is_group g ≡ true → closes_from (pos 0) (group_tokens g) ≡ true
is_group_closes g h = condition_closes (group_tokens g) (is_condition-group g h)

truth_is_group : (facts : List Fact) (g : List (List Token)) → is_group g ≡ true → truth facts (group_tokens g) ≡ or_all (map (truth facts) g)
truth_is_group facts [] h = absurd (false≢true h)
truth_is_group facts (c ∷ cs) h = truth_group facts c cs h

truth_one : (facts : List Fact) (g : List (List Token)) → is_group g ≡ true → truth facts (in_brackets (group_tokens g)) ≡ or_all (map (truth facts) g)
truth_one facts g h = truth_brackets facts (group_tokens g) (is_group_closes g h) (condition_no_clause (group_tokens g) (is_condition-group g h))
    ∙ truth_is_group facts g h

-- groups in brackets, joined by AND, have no top-level OR
joined_no_or : (g : List (List Token)) (gs : List (List (List Token))) → list_all is_group (g ∷ gs) ≡ true
    → has_top_level is_or (joined and_word (bracketed_groups (g ∷ gs))) ≡ false
joined_no_or g [] h = none-brackets is_or (group_tokens g) refl (is_group_closes g (and_parts (is_group g) true h).0)
joined_no_or g (k ∷ gs) h =
    let both = and_parts (is_group g) (list_all is_group (k ∷ gs)) h in
    let closes = is_group_closes g both.0 in
    ap (list_any (at_top_level is_or)) (placed-then (in_brackets (group_tokens g)) (and_word ∷ joined and_word (bracketed_groups (k ∷ gs)))
    (at_end-brackets (group_tokens g) closes))
    ∙ none-append is_or (placed (in_brackets (group_tokens g))) (placed (and_word ∷ joined and_word (bracketed_groups (k ∷ gs))))
    (none-brackets is_or (group_tokens g) refl closes) (joined_no_or k gs both.1)

pub truth_joined : (facts : List Fact) (g : List (List Token)) (gs : List (List (List Token))) → list_all is_group (g ∷ gs) ≡ true
    → truth facts (joined and_word (bracketed_groups (g ∷ gs))) ≡ and_all (map (λ h. or_all (map (truth facts) h)) (g ∷ gs))
truth_joined facts g [] h = truth_one facts g (and_parts (is_group g) true h).0 ∙ sym (and3-True (or_all (map (truth facts) g)))
truth_joined facts g (k ∷ gs) h =
    let both = and_parts (is_group g) (list_all is_group (k ∷ gs)) h in
    let closes = is_group_closes g both.0 in
    truth_and facts (in_brackets (group_tokens g)) (joined and_word (bracketed_groups (k ∷ gs))) (at_end-brackets (group_tokens g) closes)
    (none-brackets is_or (group_tokens g) refl closes)
    (plain-owns (placed (in_brackets (group_tokens g))) (none-brackets is_joining (group_tokens g) refl closes)) (joined_no_or k gs both.1)
    ∙ ap (λ x. and3 x (truth facts (joined and_word (bracketed_groups (k ∷ gs))))) (truth_one facts g both.0)
    ∙ ap (and3 (or_all (map (truth facts) g))) (truth_joined facts k gs both.1)

-- the truth of a WHERE
pub truth_where : (facts : List Fact) (groups : List (List (List Token))) → are_groups groups ≡ true → truth facts (where_tokens groups)
    ≡ and_all (map (λ group. or_all (map (truth facts) group)) groups)
unfolding are_groups where_tokens
truth_where facts [] h = absurd (false≢true h)
truth_where facts (g ∷ []) h = truth_is_group facts g (and_parts (is_group g) true h).0 ∙ sym (and3-True (or_all (map (truth facts) g)))
truth_where facts (g ∷ k ∷ gs) h = truth_joined facts g (k ∷ gs) h
