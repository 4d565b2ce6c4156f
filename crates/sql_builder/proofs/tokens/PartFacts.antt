-- The parts of a list that is joined, and tests of its top-level tokens.
use Rattle.sql_builder.proofs.Imports.{◌≡◌, refl, ◌∙◌, ap, Bool, true, false, cond, ◌&&◌, ◌||◌, List, [], ◌∷◌, ◌++◌, map, ℤ, ℕ, codes, take, drop, or_parts}
use Rattle.sql_builder.proofs.Imports.{or_from, true≢false, and_parts, not-true, cond-false, cond-true, list_any, list_all, Token, ends_with, is_semicolon}
use Rattle.sql_builder.proofs.Imports.{after, is_zero, placed_from, as_placed, Nested, TopLevel, Placed, is_joining, at_top_level, token_of, clause_words}
use Rattle.sql_builder.proofs.Imports.{is_clause_word, is_whole, is_word, append-nil, map-append, list_any-append}
use Rattle.sql_builder.specs.{Parts, but_last, parts_at, parts_between, all_parts, with_front, is_and, is_between, is_between_last, is_or, owns_next}
use Rattle.sql_builder.specs.{without_owned, is_union, without_semicolon}
use Rattle.sql_builder.proofs.tokens.WhereTokenFacts.{semicolon}
use Rattle.sql_builder.proofs.lists.{none-weaker}

pub none-append : (test : Token → Bool) (a b : List Placed) → list_any (at_top_level test) a ≡ false → list_any (at_top_level test) b ≡ false
    → list_any (at_top_level test) (a ++ b) ≡ false
none-append test a b h k = list_any-append (at_top_level test) a b ∙ or_from _ _ h k

pub none-inner : (test : Token → Bool) (a : List Token) → list_any (at_top_level test) (map Nested a) ≡ false
none-inner test [] = refl
none-inner test (t ∷ a) = none-inner test a

-- parts, and further ones behind a separator
pub parts_then : Parts → Token → Parts → Parts
parts_then a t b = record { lead = a.lead; rest = a.rest ++ (t, b.lead) ∷ b.rest }

with_front-then : (is : Bool) (s : Token) (a : Parts) (t : Token) (b : Parts) → with_front is s (parts_then a t b) ≡ parts_then (with_front is s a) t b
unfolding parts_then
with_front-then true s a t b = refl
with_front-then false s a t b = refl

pub parts-separator : (test : Token → Bool) (a : List Placed) (t : Token) (b : List Placed) → test t ≡ true → parts_at test (a ++ TopLevel t ∷ b)
    ≡ parts_then (parts_at test a) t (parts_at test b)
unfolding parts_then
parts-separator test [] t b h = rw h
parts-separator test (m ∷ a) t b h = rw (parts-separator test a t b h)
    (with_front-then (at_top_level test m) (token_of m) (parts_at test a) t (parts_at test b))

pub parts_between-separator : (test : Token → Bool) (a : List Placed) (t : Token) (b : List Placed) → test t ≡ true → parts_between test (a ++ TopLevel t ∷ b)
    ≡ parts_between test a ++ parts_between test b
unfolding parts_then
parts_between-separator test a t b h =
    let parted = parts_at test a in
    let more = parts_at test b in
    ap all_parts (parts-separator test a t b h) ∙ ap (λ zs. parted.lead ∷ zs) (map-append (λ (part : Token × List Token). part.1) parted.rest ((t, more.lead) ∷ more.rest))

pub parts-none : (test : Token → Bool) (a : List Placed) → list_any (at_top_level test) a ≡ false
    → parts_at test a ≡ record { lead = map token_of a; rest = [] }
parts-none test [] h = refl
parts-none test (m ∷ a) h =
    let both = or_parts (at_top_level test m) (list_any (at_top_level test) a) h in
    rw (both.0, parts-none test a both.1)

pub tokens-placed_from : (l : ℤ) (ts : List Token) → map token_of (placed_from l ts) ≡ ts
tokens-placed_from l [] = refl
tokens-placed_from l (t ∷ ts) = back (is_zero l) t (map token_of (placed_from (after l t) ts)) ts (tokens-placed_from (after l t) ts)
  where
    back : (at_top : Bool) (t : Token) (us ts : List Token) → us ≡ ts → token_of (as_placed at_top t) ∷ us ≡ t ∷ ts
    back true t us ts e = ap (λ vs. t ∷ vs) e
    back false t us ts e = ap (λ vs. t ∷ vs) e

-- one AND hidden or not, the token is the same
token_hidden : (b : Bool) (t : Token) → token_of (cond b (Nested t) (TopLevel t)) ≡ t
token_hidden true t = refl
token_hidden false t = refl

pub tokens-without_owned : (owned : Bool) (ms : List Placed) → map token_of (without_owned owned ms) ≡ map token_of ms
tokens-without_owned owned [] = refl
tokens-without_owned owned (Nested t ∷ ms) = ap (λ ts. t ∷ ts) (tokens-without_owned owned ms)
tokens-without_owned owned (TopLevel t ∷ ms) = cc (token_hidden (owned && is_and t) t, tokens-without_owned (is_between_last owned t) ms)

-- where no top-level token is OR, AND or BETWEEN, no AND is owned, and what follows is as before
pub without_owned-plain : (owned : Bool) (a b : List Placed) → list_any (at_top_level is_joining) a ≡ false → without_owned owned (a ++ b) ≡ a
    ++ without_owned owned b
without_owned-plain owned [] b h = refl
without_owned-plain owned (Nested t ∷ a) b h = ap (λ ms. Nested t ∷ ms) (without_owned-plain owned a b h)
without_owned-plain owned (TopLevel t ∷ a) b h =
    let here = or_parts (is_joining t) (list_any (at_top_level is_joining) a) h in
    let words = or_parts (is_or t) (is_and t || (is_between t || false)) here.0 in
    let ands = or_parts (is_and t) (is_between t || false) words.1 in
    unchanged owned (is_or t) (is_and t) (is_between t) words.0 ands.0 (or_parts (is_between t) false ands.1).0 (without_owned-plain owned a b here.1)
  where
    unchanged : (owned or and between : Bool) → or ≡ false → and ≡ false → between ≡ false → without_owned owned (a ++ b) ≡ a ++ without_owned owned b
        → cond (owned && and) (Nested t) (TopLevel t) ∷ without_owned (cond between true (cond (and || or) false owned)) (a ++ b)
        ≡ TopLevel t ∷ (a ++ without_owned owned b)
    unchanged true true and between e f g k = absurd (true≢false e)
    unchanged true false true between e f g k = absurd (true≢false f)
    unchanged true false false true e f g k = absurd (true≢false g)
    unchanged true false false false e f g k = ap (λ ms. TopLevel t ∷ ms) k
    unchanged false true and between e f g k = absurd (true≢false e)
    unchanged false false true between e f g k = absurd (true≢false f)
    unchanged false false false true e f g k = absurd (true≢false g)
    unchanged false false false false e f g k = ap (λ ms. TopLevel t ∷ ms) k

-- what follows tokens is read by whether a BETWEEN of theirs owns the next AND
pub without_owned-append : (owned : Bool) (a b : List Placed) → without_owned owned (a ++ b) ≡ without_owned owned a ++ without_owned (owns_next owned a) b
without_owned-append owned [] b = refl
without_owned-append owned (Nested t ∷ a) b = ap (λ ms. Nested t ∷ ms) (without_owned-append owned a b)
without_owned-append owned (TopLevel t ∷ a) b = ap (λ ms. cond (owned && is_and t) (Nested t) (TopLevel t) ∷ ms)
    (without_owned-append (is_between_last owned t) a b)

-- a test that implies another
pub none_narrower : (test wider : Token → Bool) → ((t : Token) → wider t ≡ false → test t ≡ false) → (a : List Placed) → list_any (at_top_level wider) a ≡ false
    → list_any (at_top_level test) a ≡ false
none_narrower test wider narrow a h = none-weaker (at_top_level test) (at_top_level wider) by a h
  where
    by : (m : Placed) → at_top_level wider m ≡ false → at_top_level test m ≡ false
    by (TopLevel t) none = narrow t none
    by (Nested t) none = refl

-- ---- the last token

pub but_last-append : (f : List Token) (t : Token) (q : List Token) → but_last (f ++ t ∷ q) ≡ f ++ but_last (t ∷ q)
but_last-append [] t q = refl
but_last-append (u ∷ []) t q = refl
but_last-append (u ∷ w ∷ f) t q = ap (λ ts. u ∷ ts) (but_last-append (w ∷ f) t q)

pub but_last-push : (ts : List Token) (t : Token) → but_last (ts ++ t ∷ []) ≡ ts
but_last-push ts t = but_last-append ts t [] ∙ append-nil ts

ends_with-append : (test : Token → Bool) (a : List Token) (t : Token) (q : List Token) → ends_with test (a ++ t ∷ q) ≡ ends_with test (t ∷ q)
ends_with-append test [] t q = refl
ends_with-append test (u ∷ []) t q = refl
ends_with-append test (u ∷ w ∷ a) t q = ends_with-append test (w ∷ a) t q

pub ends_with-push : (test : Token → Bool) (ts : List Token) (t : Token) → ends_with test (ts ++ t ∷ []) ≡ test t
ends_with-push test ts t = ends_with-append test ts t []

-- ---- the `;` at the end

pub no_semicolon : (ts : List Token) → list_all is_whole ts ≡ true → ends_with (is_semicolon) ts ≡ false
no_semicolon [] h = refl
no_semicolon (t ∷ []) h = not-true _ (and_parts _ _ (and_parts (is_whole t) true h).0).1
no_semicolon (t ∷ u ∷ ts) h = no_semicolon (u ∷ ts) (and_parts (is_whole t) (list_all is_whole (u ∷ ts)) h).1

pub semicolon-none : (ts : List Token) → list_all is_whole ts ≡ true → without_semicolon ts ≡ ts
semicolon-none ts h = cond-false _ _ _ (no_semicolon ts h)

pub semicolon-one : (ts : List Token) → without_semicolon (ts ++ semicolon ∷ []) ≡ ts
semicolon-one ts = cond-true _ _ _ (ends_with-push (is_semicolon) ts semicolon) ∙ but_last-push ts semicolon

-- behind another token
pub semicolon-later : (ts : List Token) (t : Token) (q : List Token) → is_semicolon t ≡ false → (r : List Token)
    × (without_semicolon (ts ++ t ∷ q) ≡ ts ++ t ∷ r)
semicolon-later ts t [] h = ([], cond-false _ _ _ (ends_with-append (is_semicolon) ts t [] ∙ h))
semicolon-later ts t (u ∷ q) h = by (ends_with (is_semicolon) (ts ++ t ∷ u ∷ q)) refl
  where
    by : (b : Bool) → ends_with (is_semicolon) (ts ++ t ∷ u ∷ q) ≡ b → (r : List Token) × (without_semicolon (ts ++ t ∷ u ∷ q) ≡ ts ++ t ∷ r)
    by true e = (but_last (u ∷ q), cond-true _ _ _ e ∙ but_last-append ts t (u ∷ q))
    by false e = (u ∷ q, cond-false _ _ _ e)

none_at : (ks : List (List ℕ)) (k : List ℕ) (js : List (List ℕ)) (t : Token) → list_any (λ w. is_word w t) (ks ++ k ∷ js) ≡ false → is_word k t ≡ false
none_at [] k js t h = (or_parts (is_word k t) (list_any (λ w. is_word w t) js) h).0
none_at (l ∷ ks) k js t h = none_at ks k js t (or_parts (is_word l t) (list_any (λ w. is_word w t) (ks ++ k ∷ js)) h).1

pub not_union : (t : Token) → is_clause_word t ≡ false → is_union t ≡ false
not_union t h = none_at (take 5 clause_words) (codes "UNION") (drop 6 clause_words) t h
