-- The truth of what is joined by OR and AND, and of what is in brackets.
use Rattle.sql_builder.proofs.Imports.{◌≡◌, refl, sym, ◌∙◌, ap, subst, Bool, true, false, List, [], ◌∷◌, ◌++◌, map, pos, ℤ, negsuc, append-nil, ◌||◌, suc_ℤ}
use Rattle.sql_builder.proofs.Imports.{and_from, or_parts, or_from, false≢true, cond-true, cond-false, not_from_false, list_any, Token}
use Rattle.sql_builder.proofs.Imports.{at_end, closes_from, has_top_level, is_at_least_0, is_at_least_1, placed, placed_from, stays_inside, Nested, TopLevel}
use Rattle.sql_builder.proofs.Imports.{Placed, is_joining, at_top_level, is_symbol}
use Rattle.sql_builder.specs.WhereTokens.{in_brackets}
use Rattle.sql_builder.proofs.tokens.WhereTokenFacts.{and_word, has_clause, left_bracket, not_word, or_word, right_bracket}
use Rattle.sql_builder.proofs.tokens.DepthFacts.{placed_from-append, behind-suc, placed_from-suc, stays-closes, ends-up, at_end-append}
use Rattle.sql_builder.proofs.tokens.PartFacts.{but_last-push, ends_with-push, parts_between-separator, parts-none, tokens-placed_from, tokens-without_owned}
use Rattle.sql_builder.proofs.tokens.PartFacts.{without_owned-plain, none-inner, none-append, none_narrower, without_owned-append}
use Rattle.sql_builder.proofs.truth.FormLemmas.{truth_is, is_bracketed, placed_ands}
use Rattle.sql_builder.specs.{parts_between, all_parts, False, True, Truth, Unknown, not3, or3, or_all, is_and, is_or, and_all, and3, truth, truth_by, value_in}
use Rattle.sql_builder.specs.{without_owned, Valuation, is_between, owns_next}

pub or3-False : (x : Truth) → or3 x False ≡ x
or3-False False = refl
or3-False Unknown = refl
or3-False True = refl

or3_assoc : (x y z : Truth) → or3 (or3 x y) z ≡ or3 x (or3 y z)
or3_assoc False y z = refl
or3_assoc True y z = refl
or3_assoc Unknown False z = refl
or3_assoc Unknown True z = refl
or3_assoc Unknown Unknown False = refl
or3_assoc Unknown Unknown Unknown = refl
or3_assoc Unknown Unknown True = refl

pub and3-True : (x : Truth) → and3 x True ≡ x
and3-True False = refl
and3-True Unknown = refl
and3-True True = refl

and3_assoc : (x y z : Truth) → and3 (and3 x y) z ≡ and3 x (and3 y z)
and3_assoc False y z = refl
and3_assoc True y z = refl
and3_assoc Unknown False z = refl
and3_assoc Unknown True z = refl
and3_assoc Unknown Unknown False = refl
and3_assoc Unknown Unknown Unknown = refl
and3_assoc Unknown Unknown True = refl

or_all-append : (f : List Token → Truth) (xs ys : List (List Token)) → or_all (map f (xs ++ ys)) ≡ or3 (or_all (map f xs)) (or_all (map f ys))
or_all-append f [] ys = refl
or_all-append f (x ∷ xs) ys = ap (or3 (f x)) (or_all-append f xs ys) ∙ sym (or3_assoc (f x) _ _)

and_all-append : (f : List Token → Truth) (xs ys : List (List Token)) → and_all (map f (xs ++ ys)) ≡ and3 (and_all (map f xs)) (and_all (map f ys))
and_all-append f [] ys = refl
and_all-append f (x ∷ xs) ys = ap (and3 (f x)) (and_all-append f xs ys) ∙ sym (and3_assoc (f x) _ _)

-- no separator: the one part is the whole
one_part : (test : Token → Bool) (ts : List Token) → has_top_level test ts ≡ false → parts_between test (placed ts) ≡ ts ∷ []
one_part test ts h = ap all_parts (parts-none test (placed ts) h) ∙ ap (λ us. us ∷ []) (tokens-placed_from (pos 0) ts)

one_part_and : (ts : List Token) → list_any (at_top_level is_and) (placed_ands ts) ≡ false → parts_between is_and (placed_ands ts) ≡ ts ∷ []
one_part_and ts h = ap all_parts (parts-none is_and (placed_ands ts) h)
    ∙ ap (λ us. us ∷ []) (tokens-without_owned false (placed ts) ∙ tokens-placed_from (pos 0) ts)

-- the OR of the parts between the top-level ORs, also where there is none
pub truth_any : (facts : Valuation) (ts : List Token) → truth facts ts ≡ or_all (map (truth facts) (parts_between is_or (placed ts)))
truth_any facts ts = by (has_top_level is_or ts) refl
  where
    by : (b : Bool) → has_top_level is_or ts ≡ b → truth facts ts ≡ or_all (map (truth facts) (parts_between is_or (placed ts)))
    by true e = truth_is facts ts ∙ ap (truth_by (truth facts) (value_in facts ts)) (cond-true _ _ _ e)
    by false e = sym (ap (λ ps. or_all (map (truth facts) ps)) (one_part is_or ts e) ∙ or3-False (truth facts ts))

-- the same of the top-level ANDs, where there is no top-level OR
pub truth_all : (facts : Valuation) (ts : List Token) → has_top_level is_or ts ≡ false → truth facts ts
    ≡ and_all (map (truth facts) (parts_between is_and (placed_ands ts)))
truth_all facts ts h = by (list_any (at_top_level is_and) (placed_ands ts)) refl
  where
    by : (b : Bool) → list_any (at_top_level is_and) (placed_ands ts) ≡ b → truth facts ts ≡ and_all (map (truth facts) (parts_between is_and (placed_ands ts)))
    by true e = truth_is facts ts ∙ ap (truth_by (truth facts) (value_in facts ts)) (cond-false _ _ _ h ∙ cond-true _ _ _ e)
    by false e = sym (ap (λ ps. and_all (map (truth facts) ps)) (one_part_and ts e) ∙ and3-True (truth facts ts))

-- what ends at depth 0, and more
pub placed-then : (a b : List Token) → at_end (pos 0) a ≡ pos 0 → placed (a ++ b) ≡ placed a ++ placed b
placed-then a b h = placed_from-append (pos 0) a b ∙ ap (λ l. placed a ++ placed_from l b) h

-- the truth of an OR
pub truth_or : (facts : Valuation) (a b : List Token) → at_end (pos 0) a ≡ pos 0 → truth facts (a ++ or_word ∷ b) ≡ or3 (truth facts a) (truth facts b)
truth_or facts a b h =
    truth_any facts (a ++ or_word ∷ b)
    ∙ ap (λ ms. or_all (map (truth facts) (parts_between is_or ms))) (placed-then a (or_word ∷ b) h)
    ∙ ap (λ ps. or_all (map (truth facts) ps)) (parts_between-separator is_or (placed a) or_word (placed b) refl)
    ∙ or_all-append (truth facts) (parts_between is_or (placed a)) (parts_between is_or (placed b))
    ∙ ap (λ x. or3 x (or_all (map (truth facts) (parts_between is_or (placed b))))) (sym (truth_any facts a))
    ∙ ap (or3 (truth facts a)) (sym (truth_any facts b))

-- no top-level OR, AND or BETWEEN: no top-level OR, and no top-level AND
pub no_or : (ms : List Placed) → list_any (at_top_level is_joining) ms ≡ false → list_any (at_top_level is_or) ms ≡ false
no_or ms h = none_narrower is_or is_joining (λ t e. (or_parts _ _ e).0) ms h

pub no_and : (ms : List Placed) → list_any (at_top_level is_joining) ms ≡ false → list_any (at_top_level is_and) ms ≡ false
no_and ms h = none_narrower is_and is_joining (λ t e. (or_parts _ _ (or_parts (is_or t) _ e).1).0) ms h

pub without_owned-all : (a : List Placed) → list_any (at_top_level is_joining) a ≡ false → without_owned false a ≡ a
without_owned-all a h = subst (λ ms. without_owned false ms ≡ ms) (append-nil a) (without_owned-plain false a [] h)

-- the truth of an AND
pub truth_and : (facts : Valuation) (a b : List Token) → at_end (pos 0) a ≡ pos 0 → has_top_level is_or a ≡ false → owns_next false (placed a) ≡ false
    → has_top_level is_or b ≡ false
    → truth facts (a ++ and_word ∷ b) ≡ and3 (truth facts a) (truth facts b)
truth_and facts a b h no_or_a free no_or_b =
    let both : placed (a ++ and_word ∷ b) ≡ placed a ++ TopLevel and_word ∷ placed b = placed-then a (and_word ∷ b) h in
    truth_all facts (a ++ and_word ∷ b) (ap (list_any (at_top_level is_or)) both ∙ none-append is_or (placed a) (TopLevel and_word ∷ placed b) no_or_a no_or_b)
    ∙ ap (λ ms. and_all (map (truth facts) (parts_between is_and (without_owned false ms)))) both
    ∙ ap (λ ms. and_all (map (truth facts) (parts_between is_and ms)))
    (without_owned-append false (placed a) (TopLevel and_word ∷ placed b)
    ∙ ap (λ owned. placed_ands a ++ without_owned owned (TopLevel and_word ∷ placed b)) free)
    ∙ ap (λ ps. and_all (map (truth facts) ps)) (parts_between-separator is_and (placed_ands a) and_word (placed_ands b) refl)
    ∙ and_all-append (truth facts) (parts_between is_and (placed_ands a)) (parts_between is_and (placed_ands b))
    ∙ ap (λ x. and3 x (and_all (map (truth facts) (parts_between is_and (placed_ands b))))) (sym (truth_all facts a no_or_a))
    ∙ ap (and3 (truth facts a)) (sym (truth_all facts b no_or_b))

-- what has no top-level OR, AND or BETWEEN owns nothing
pub plain-owns : (ms : List Placed) → list_any (at_top_level is_joining) ms ≡ false → owns_next false ms ≡ false
plain-owns [] h = refl
plain-owns (Nested t ∷ ms) h = plain-owns ms h
plain-owns (TopLevel t ∷ ms) h =
    let here = or_parts (is_joining t) (list_any (at_top_level is_joining) ms) h in
    let words = or_parts (is_or t) (is_and t || (is_between t || false)) here.0 in
    let ands = or_parts (is_and t) (is_between t || false) words.1 in
    let between = (or_parts (is_between t) false ands.1).0 in
    ap (λ owned. owns_next owned ms) (cond-false _ _ _ between ∙ cond-false _ _ _ (or_from _ _ ands.0 words.0)) ∙ plain-owns ms here.1

-- ---- brackets

-- in brackets no token but the first is top-level
pub placed-brackets : (ts : List Token) → closes_from (pos 0) ts ≡ true → placed (in_brackets ts)
    ≡ TopLevel left_bracket ∷ (map Nested ts ++ Nested right_bracket ∷ [])
unfolding in_brackets
placed-brackets ts h =
    let last : at_end (pos 1) ts ≡ pos 1 = ends-up 1 ts h in
    let back : placed_from (at_end (pos 1) ts) (right_bracket ∷ []) ≡ Nested right_bracket ∷ [] = ap (λ l. placed_from l (right_bracket ∷ [])) last in
    ap (λ ms. TopLevel left_bracket ∷ ms) (placed_from-append (pos 1) ts (right_bracket ∷ [])
    ∙ ap (λ ms. ms ++ placed_from (at_end (pos 1) ts) (right_bracket ∷ [])) (placed_from-suc (pos 0) ts refl h) ∙ ap (λ ms. map Nested ts ++ ms) back)

pub at_end-brackets : (ts : List Token) → closes_from (pos 0) ts ≡ true → at_end (pos 0) (in_brackets ts) ≡ pos 0
unfolding in_brackets
at_end-brackets ts h =
    at_end-append (pos 1) ts (right_bracket ∷ [])
    ∙ ap (λ l. at_end l (right_bracket ∷ [])) (ends-up 1 ts h)

-- so no test finds a top-level token there, if it does not pass `(`
pub none-brackets : (test : Token → Bool) (ts : List Token) → test left_bracket ≡ false → closes_from (pos 0) ts ≡ true → has_top_level test (in_brackets ts)
    ≡ false
none-brackets test ts first h = ap (list_any (at_top_level test)) (placed-brackets ts h)
    ∙ or_from _ _ first (none-append test (map Nested ts) (Nested right_bracket ∷ []) (none-inner test ts) refl)

one_more : (l : ℤ) → is_at_least_0 l ≡ true → is_at_least_1 (suc_ℤ l) ≡ true
one_more (pos n) h = refl
one_more (negsuc n) h = absurd (false≢true h)

bracketed : (ts : List Token) → closes_from (pos 0) ts ≡ true → has_clause ts ≡ false → is_bracketed (in_brackets ts) ≡ true
unfolding in_brackets
bracketed ts h no_clause =
    and_from _ _ (ends_with-push (is_symbol 41) (left_bracket ∷ ts) right_bracket)
    (and_from _ _ (ap (stays_inside (pos 0)) (but_last-push (left_bracket ∷ ts) right_bracket)
    ∙ behind-suc is_at_least_0 is_at_least_1 one_more (pos 0) ts (stays-closes (pos 0) ts h))
    (not_from_false _ (ap has_clause (but_last-push ts right_bracket) ∙ no_clause)))

-- The truth of what is in brackets. The inside must not be a query: else the whole is an atom.
pub truth_brackets : (facts : Valuation) (ts : List Token) → closes_from (pos 0) ts ≡ true → has_clause ts ≡ false → truth facts (in_brackets ts)
    ≡ truth facts ts
unfolding in_brackets
truth_brackets facts ts h no_clause =
    truth_is facts (in_brackets ts)
    ∙ ap (truth_by (truth facts) (value_in facts (in_brackets ts)))
    (cond-false _ _ _ (none-brackets is_or ts refl h)
    ∙ cond-false _ _ _ (ap (list_any (at_top_level is_and)) (without_owned-all (placed (in_brackets ts)) (none-brackets is_joining ts refl h))
    ∙ none-brackets is_and ts refl h)
    ∙ cond-true _ _ _ (bracketed ts h no_clause))
    ∙ ap (truth facts) (but_last-push ts right_bracket)

-- the truth of a NOT
pub truth_not : (facts : Valuation) (ts : List Token) → has_top_level is_or ts ≡ false → list_any (at_top_level is_and) (placed_ands ts) ≡ false
    → truth facts (not_word ∷ ts) ≡ not3 (truth facts ts)
truth_not facts ts no_ors no_ands =
    truth_is facts (not_word ∷ ts)
    ∙ ap (truth_by (truth facts) (value_in facts (not_word ∷ ts))) (cond-false _ _ _ no_ors ∙ cond-false _ _ _ no_ands)
