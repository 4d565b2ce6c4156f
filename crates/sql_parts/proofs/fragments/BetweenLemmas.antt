-- The AND of each BETWEEN, looked for from the front of a list of tokens.
use Rattle.sql_parts.proofs.Imports.{◌≡◌, refl, sym, ◌∙◌, ℕ, suc, ◌+◌, Bool, true, false, not, ◌&&◌, ◌||◌, ltb, List, [], ◌∷◌}
use Rattle.sql_parts.proofs.Imports.{ℤ, pos, ◌+ℤ◌, ◌-ℤ◌, codes, arith, int_le, int_eq, list_all, list_any, ints, and-false}
use Rattle.sql_parts.proofs.Imports.{and-true, list_all-map, ltb-true, lt-ltb, le-ltb, same_from_decides, Decides-ltb}
use Rattle.sql_parts.specs.{Token, any_token, has_ands, is_and_of, is_joining, is_word, depth_at, lowers, places, raises, weight, is_answered}
use Rattle.sql_parts.proofs.fragments.DepthFacts.{after, change, any_place, each_place, is_at_least_0, is_zero, depth_from, depth_from-start, depth_from-suc}
use Rattle.sql_parts.proofs.fragments.DepthFacts.{depth_from-zero, zero-is, least-is, after-counted, zero-counted, least-counted}
use Rattle.sql_parts.proofs.fragments.KeywordLemmas.{apart-lowers, apart-raises}

abbrev pub is_and : Token → Bool
is_and token = is_word (codes "AND") token

ltb-suc : (a b : ℕ) → ltb (suc a) (suc b) ≡ ltb a b
ltb-suc a b = same_from_decides (ltb (suc a) (suc b)) (ltb a b) (Decides-ltb (suc a) (suc b))
    (λ e. let less = ltb-true a b e in omega (arith, less), λ less. lt-ltb a b (omega (arith, less)))

ltb-zero : (a : ℕ) → ltb a 0 ≡ false
ltb-zero a = le-ltb a 0 (omega arith)

ltb-first : (a : ℕ) → ltb 0 (suc a) ≡ true
ltb-first a = lt-ltb 0 (suc a) (omega arith)

all-true : (xs : List ℕ) → list_all (λ x. true) xs ≡ true
all-true [] = refl
all-true (x ∷ xs) = all-true xs

any-false : (xs : List ℕ) → list_any (λ x. false) xs ≡ false
any-false [] = refl
any-false (x ∷ xs) = any-false xs

any-and : (b : Bool) (test : ℕ → Bool) (xs : List ℕ) → list_any (λ x. b && test x) xs ≡ (b && list_any test xs)
any-and true test xs = refl
any-and false test xs = any-false xs

-- the AND at a place answers a BETWEEN before the tokens, over which their front is at this depth
answers : ℤ → List Token → ℕ → Bool
answers l ts and =
    is_zero (depth_from l ts and)
    && list_all (λ place. not (ltb place and) || is_at_least_0 (depth_from l ts place)) (places any_token ts)
    && not (list_any (λ place. ltb place and && is_zero (depth_from l ts place)) (places is_joining ts))

answers-zero : (l : ℤ) (ts : List Token) → answers l ts 0 ≡ is_zero l
unfolding answers
answers-zero l ts = simp (depth_from-zero l ts, ltb-zero, all-true, any-false, and-true)

rearranged : (zero high joined at_least none : Bool)
    → ((zero && (high && at_least)) && not (joined || none)) ≡ ((high && not joined) && ((zero && at_least) && not none))
rearranged zero high joined at_least none = grind arith

answers-suc : (l : ℤ) (token : Token) (ts : List Token) (and : ℕ)
    → answers l (token ∷ ts) (suc and) ≡ ((is_at_least_0 l && not (is_joining token && is_zero l)) && answers (after l token) ts and)
unfolding answers
answers-suc l token ts and =
    simp (any_place, list_all-map, depth_from-zero l (token ∷ ts), depth_from-suc l token ts, ltb-first, ltb-suc)
    (rearranged _ (is_at_least_0 l) (is_joining token && is_zero l) _ _)

answered-is : (up down : ℕ) (ts : List Token) → list_any (answers (pos up -ℤ pos down) ts) (places is_and ts) ≡ is_answered up down ts
answered-is up down [] = refl
answered-is up down (token ∷ ts) =
    simp (
      any_place,
      answers-zero,
      answers-suc,
      any-and,
      zero-counted,
      least-counted,
      after-counted,
      answered-is (up + weight raises token) (down + weight lowers token) ts,
    )

-- behind a token that precedes both
eq-shift : (w x y : ℤ) → int_eq (w +ℤ x) (w +ℤ y) ≡ int_eq x y
eq-shift w x y = grind (arith, ints)

le-shift : (w x y : ℤ) → int_le (w +ℤ x) (w +ℤ y) ≡ int_le x y
le-shift w x y = grind (arith, ints)

depth_at-suc : (token : Token) (ts : List Token) (place : ℕ) → depth_at (token ∷ ts) (suc place) ≡ depth_from (after (pos 0) token) ts place
depth_at-suc token ts place = sym (depth_from-start (token ∷ ts) (suc place)) ∙ depth_from-suc (pos 0) token ts place

and_of-suc : (token : Token) (ts : List Token) (between and : ℕ) → is_and_of (token ∷ ts) (suc between) (suc and) ≡ is_and_of ts between and
and_of-suc token ts between and = simp (any_place, list_all-map, ltb-suc, ltb-zero, depth_at-suc token ts, eq-shift, le-shift, and-false)

and_of-none : (token : Token) (ts : List Token) (between : ℕ) → is_and_of ts between 0 ≡ false
and_of-none token ts between = simp ltb-zero

-- the AND of a BETWEEN that is first
and_of-first : (token : Token) (ts : List Token) (and : ℕ) → raises token ≡ false → lowers token ≡ false
    → is_and_of (token ∷ ts) 0 (suc and) ≡ answers (pos 0) ts and
unfolding answers
and_of-first token ts and flat_up flat_down =
    let flat : after (pos 0) token ≡ pos 0 = λ i. change (flat_up i) (flat_down i) (pos 0) in
    simp (any_place, list_all-map, ltb-first, ltb-suc, depth_at-suc token ts, flat, zero-is, least-is, and-false)

-- each BETWEEN of the tokens has its AND behind it
abbrev each_answered : List Token → Bool
each_answered [] = true
each_answered (token ∷ ts) = (not (is_word (codes "BETWEEN") token) || is_answered 0 0 ts) && each_answered ts

first-answered : (token : Token) (ts : List Token) (between : Bool) → is_word (codes "BETWEEN") token ≡ between
    → (not between || list_any (is_and_of (token ∷ ts) 0) (places is_and (token ∷ ts))) ≡ (not between || is_answered 0 0 ts)
first-answered token ts false is = refl
first-answered token ts true is =
    any_place (is_and_of (token ∷ ts) 0) (is_and token) (places is_and ts)
    ∙ (λ i. (is_and token && and_of-none token (token ∷ ts) 0 i)
    || list_any (λ and. and_of-first token ts and (apart-raises (codes "BETWEEN") token refl is) (apart-lowers (codes "BETWEEN") token refl is) i)
    (places is_and ts))
    ∙ (λ i. and-false (is_and token) i || answered-is 0 0 ts i)

later-answered : (token : Token) (ts : List Token) (between : ℕ)
    → list_any (is_and_of (token ∷ ts) (suc between)) (places is_and (token ∷ ts)) ≡ list_any (is_and_of ts between) (places is_and ts)
later-answered token ts between =
    any_place (is_and_of (token ∷ ts) (suc between)) (is_and token) (places is_and ts)
    ∙ (λ i. (is_and token && and_of-none token (token ∷ ts) (suc between) i) || list_any (λ and. and_of-suc token ts between and i) (places is_and ts))
    ∙ (λ i. and-false (is_and token) i || list_any (is_and_of ts between) (places is_and ts))

has_ands-is : (ts : List Token) → has_ands ts ≡ each_answered ts
has_ands-is [] = refl
has_ands-is (token ∷ ts) =
    each_place (λ between. list_any (is_and_of (token ∷ ts) between) (places is_and (token ∷ ts))) (is_word (codes "BETWEEN") token)
    (places (is_word (codes "BETWEEN")) ts)
    ∙ (λ i. first-answered token ts (is_word (codes "BETWEEN") token) refl i
    && list_all (λ between. later-answered token ts between i) (places (is_word (codes "BETWEEN")) ts))
    ∙ (λ i. (not (is_word (codes "BETWEEN") token) || is_answered 0 0 ts) && has_ands-is ts i)

-- rule by rule: the first BETWEEN, and then those of the rest
pub has_ands-rule : (token : Token) (ts : List Token) → has_ands (token ∷ ts) ≡ ((not (is_word (codes "BETWEEN") token) || is_answered 0 0 ts) && has_ands ts)
has_ands-rule token ts = has_ands-is (token ∷ ts) ∙ (λ i. (not (is_word (codes "BETWEEN") token) || is_answered 0 0 ts) && sym (has_ands-is ts) i)
