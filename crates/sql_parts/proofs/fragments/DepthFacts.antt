-- The nesting depth along the tokens, and that it is that of the places.
use Rattle.sql_parts.proofs.Imports.{◌≡◌, refl, sym, ◌∙◌, ap, ℕ, zero, suc, ◌+◌, Bool, true, false, not, cond, ◌&&◌, eqb, leb, List, [], ◌∷◌, length, map, ℤ}
use Rattle.sql_parts.proofs.Imports.{pos, negsuc, ◌-ℤ◌, ◌+ℤ◌, codes, arith, int_le, ◌||◌, list_all, list_any, zip, int_eq, ints, take}
use Rattle.sql_parts.proofs.Imports.{le-leb, true≢false, and_assoc, and-false, and-true, suc_ℤ, pred_ℤ, +ℤ_idl, +ℤ_idr, +ℤ_one, suc-pred}
use Rattle.sql_parts.proofs.Imports.{list_all-map, sum_by-cons, nat_tests}
use Rattle.std.proofs.lemmas.Simd.{map-map}
use Rattle.sql_parts.specs.{Token, begins_with, is_empty, Placed, any_token, as_placed, is_joining, at_top_level, is_whole, is_word, depth_at, lowers, places}
use Rattle.sql_parts.specs.{raises, weight}
use Rattle.sql_parts.specs.Fragments as fragments
use Rattle.sql_parts.proofs.fragments.KeywordLemmas.{raises-alone}

abbrev pub change : (up down : Bool) → ℤ → ℤ
change up down l = cond up (suc_ℤ l) (cond down (pred_ℤ l) l)

-- the depth after a token, from the depth before it
abbrev pub after : ℤ → Token → ℤ
after l t = change (raises t) (lowers t) l

-- the depth after all tokens
abbrev pub at_end : ℤ → List Token → ℤ
at_end l [] = l
at_end l (t ∷ ts) = at_end (after l t) ts

abbrev pub is_zero : ℤ → Bool
is_zero (pos zero) = true
is_zero (pos (suc n)) = false
is_zero (negsuc n) = false

abbrev pub is_at_least_0 : ℤ → Bool
is_at_least_0 (pos n) = true
is_at_least_0 (negsuc n) = false

abbrev pub is_at_least_1 : ℤ → Bool
is_at_least_1 (pos zero) = false
is_at_least_1 (pos (suc n)) = true
is_at_least_1 (negsuc n) = false

-- each token with its place, where the first has this depth before it
abbrev pub placed_from : ℤ → List Token → List Placed
placed_from l [] = []
placed_from l (t ∷ ts) = as_placed (is_zero l) t ∷ placed_from (after l t) ts

abbrev pub placed : List Token → List Placed
placed ts = placed_from (pos 0) ts

abbrev pub has_top_level_from : (Token → Bool) → ℤ → List Token → Bool
has_top_level_from test l ts = list_any (at_top_level test) (placed_from l ts)

abbrev pub has_top_level : (Token → Bool) → List Token → Bool
has_top_level test ts = has_top_level_from test (pos 0) ts

-- from depth l on, the depth is at least 0 after each token, and 0 after the last
abbrev pub closes_from : ℤ → List Token → Bool
closes_from l [] = is_zero l
closes_from l (t ∷ ts) = is_at_least_0 (after l t) && closes_from (after l t) ts

-- the depth after each token passes a test
abbrev pub all_behind : (ℤ → Bool) → ℤ → List Token → Bool
all_behind test l [] = true
all_behind test l (t ∷ ts) = test (after l t) && all_behind test (after l t) ts

-- the depth is at least 1 after each token
abbrev pub stays_inside : ℤ → List Token → Bool
stays_inside l ts = all_behind is_at_least_1 l ts

-- balanced, or no token at all
abbrev pub is_even : List Token → Bool
is_even ts = list_all is_whole ts && closes_from (pos 0) ts

abbrev pub is_balanced : List Token → Bool
is_balanced ts = not (is_empty ts) && is_even ts

abbrev pub is_operand : List Token → Bool
is_operand ts = is_balanced ts && (not (has_top_level is_joining ts) && not (begins_with (is_word (codes "NOT")) ts))

-- ---- the depth at a place, and the depth after the token before it

change-is : (up down : Bool) (l : ℤ) → (up ≡ true → down ≡ false) → change up down l ≡ l +ℤ (pos (cond up 1 0) -ℤ pos (cond down 1 0))
change-is true true l alone = absurd (true≢false (alone refl))
change-is true false l alone = sym (+ℤ_one l)
change-is false true l alone = let one = +ℤ_one (pred_ℤ l) ∙ suc-pred l in omega (arith, ints, one)
change-is false false l alone = sym (+ℤ_idr l)

after-is : (l : ℤ) (t : Token) → after l t ≡ l +ℤ (pos (weight raises t) -ℤ pos (weight lowers t))
after-is l t = change-is (raises t) (lowers t) l (raises-alone t)

-- the depth at a place, where the first token has depth l before it
abbrev pub depth_from : ℤ → List Token → ℕ → ℤ
depth_from l ts place = l +ℤ depth_at ts place

-- where the depth of places and the running one meet
pub depth_from-suc : (l : ℤ) (t : Token) (ts : List Token) (place : ℕ) → depth_from l (t ∷ ts) (suc place) ≡ depth_from (after l t) ts place
depth_from-suc l t ts place =
    let more = sum_by-cons (weight raises) t (take place ts) in
    let less = sum_by-cons (weight lowers) t (take place ts) in
    let moved = after-is l t in
    omega (arith, ints, more, less, moved)

pub depth_from-zero : (l : ℤ) (ts : List Token) → depth_from l ts 0 ≡ l
depth_from-zero l ts = +ℤ_idr l

pub depth_from-start : (ts : List Token) (place : ℕ) → depth_from (pos 0) ts place ≡ depth_at ts place
depth_from-start ts place = +ℤ_idl (depth_at ts place)

pub zero-is : (l : ℤ) → int_eq l (pos 0) ≡ is_zero l
zero-is (pos zero) = refl
zero-is (pos (suc n)) = grind (arith, ints)
zero-is (negsuc n) = refl

pub least-is : (l : ℤ) → int_le (pos 0) l ≡ is_at_least_0 l
least-is (pos n) = le-leb 0 n (omega arith)
least-is (negsuc n) = refl

one-is : (l : ℤ) → int_le (pos 1) l ≡ is_at_least_1 l
one-is (pos zero) = refl
one-is (pos (suc n)) = le-leb 1 (suc n) (omega arith)
one-is (negsuc n) = refl

-- a fact of the places of a list, by its first token and the places of the rest
list_any-map : {X Y : Type 0} (test : Y → Bool) (f : X → Y) (xs : List X) → list_any test (map f xs) ≡ list_any (λ x. test (f x)) xs
list_any-map test f [] = refl
list_any-map test f (x ∷ xs) = ap (λ b. test (f x) || b) (list_any-map test f xs)

pub any_place : (test : ℕ → Bool) (passes : Bool) (later : List ℕ)
    → list_any test (cond passes (0 ∷ map suc later) (map suc later)) ≡ ((passes && test 0) || list_any (λ place. test (suc place)) later)
any_place test true later = ap (λ b. test 0 || b) (list_any-map test suc later)
any_place test false later = list_any-map test suc later

pub each_place : (test : ℕ → Bool) (passes : Bool) (later : List ℕ)
    → list_all test (cond passes (0 ∷ map suc later) (map suc later)) ≡ ((not passes || test 0) && list_all (λ place. test (suc place)) later)
each_place test true later = ap (λ b. test 0 && b) (list_all-map test suc later)
each_place test false later = list_all-map test suc later

-- ---- by places, and along the tokens

top_level-place : (test : Token → Bool) (at_top : Bool) (t : Token) → (test t && at_top) ≡ at_top_level test (as_placed at_top t)
top_level-place test true t = and-true (test t)
top_level-place test false t = and-false (test t)

top_level_from-is : (test : Token → Bool) (l : ℤ) (ts : List Token)
    → list_any (λ place. is_zero (depth_from l ts place)) (places test ts) ≡ has_top_level_from test l ts
top_level_from-is test l [] = refl
top_level_from-is test l (t ∷ ts) =
    simp (any_place, depth_from-zero l (t ∷ ts), depth_from-suc l t ts, top_level-place test (is_zero l) t, top_level_from-is test (after l t) ts)

top_level-is : (ts : List Token) (place : ℕ) → fragments.is_top_level ts place ≡ is_zero (depth_from (pos 0) ts place)
top_level-is ts place = zero-is (depth_at ts place) ∙ ap is_zero (sym (depth_from-start ts place))

pub has_top_level-is : (test : Token → Bool) (ts : List Token) → fragments.has_top_level test ts ≡ has_top_level test ts
has_top_level-is test ts = (λ i. list_any (λ place. top_level-is ts place i) (places test ts)) ∙ top_level_from-is test (pos 0) ts

abbrev as_placed_all : List (Bool × Token) → List Placed
as_placed_all found = map (λ (f : Bool × Token). as_placed f.0 f.1) found

placed_from-is : (l : ℤ) (ts : List Token)
    → as_placed_all (zip (map (λ place. is_zero (depth_from l ts place)) (places any_token ts)) ts) ≡ placed_from l ts
placed_from-is l [] = refl
placed_from-is l (t ∷ ts) = simp (map-map, depth_from-zero l (t ∷ ts), depth_from-suc l t ts, placed_from-is (after l t) ts)

pub placed-is : (ts : List Token) → fragments.placed ts ≡ placed ts
placed-is ts = (λ i. as_placed_all (zip (map (λ place. top_level-is ts place i) (places any_token ts)) ts)) ∙ placed_from-is (pos 0) ts

behind_from-is : (test : ℤ → Bool) (l : ℤ) (ts : List Token)
    → list_all (λ place. test (depth_from l ts (suc place))) (places any_token ts) ≡ all_behind test l ts
behind_from-is test l [] = refl
behind_from-is test l (t ∷ ts) =
    simp (list_all-map, depth_from-suc l t ts, depth_from-suc l t ts 0, depth_from-zero (after l t) ts, behind_from-is test (after l t) ts)

behind-is : (test : ℤ → Bool) (ts : List Token) → list_all (λ place. test (depth_at ts (suc place))) (places any_token ts) ≡ all_behind test (pos 0) ts
behind-is test ts = (λ i. list_all (λ place. test (sym (depth_from-start ts (suc place)) i)) (places any_token ts)) ∙ behind_from-is test (pos 0) ts

pub inside-is : (ts : List Token) → list_all (λ place. int_le (pos 1) (depth_at ts (suc place))) (places any_token ts) ≡ stays_inside (pos 0) ts
inside-is ts = (λ i. list_all (λ place. one-is (depth_at ts (suc place)) i) (places any_token ts)) ∙ behind-is is_at_least_1 ts

end_from-is : (l : ℤ) (ts : List Token) → depth_from l ts (length ts) ≡ at_end l ts
end_from-is l [] = depth_from-zero l []
end_from-is l (t ∷ ts) = depth_from-suc l t ts (length ts) ∙ end_from-is (after l t) ts

-- the depth behind the last token
pub end-is : (ts : List Token) → fragments.is_top_level ts (length ts) ≡ is_zero (at_end (pos 0) ts)
end-is ts = top_level-is ts (length ts) ∙ ap is_zero (end_from-is (pos 0) ts)

pub closes_from-is : (l : ℤ) (ts : List Token) → (all_behind is_at_least_0 l ts && is_zero (at_end l ts)) ≡ closes_from l ts
closes_from-is l [] = refl
closes_from-is l (t ∷ ts) = simp (and_assoc, closes_from-is (after l t) ts)

brackets_match-closes : (ts : List Token) → fragments.brackets_match ts ≡ closes_from (pos 0) ts
brackets_match-closes ts =
    (λ i. list_all (λ place. least-is (depth_at ts (suc place)) i) (places any_token ts) && end-is ts i)
    ∙ (λ i. behind-is is_at_least_0 ts i && is_zero (at_end (pos 0) ts))
    ∙ closes_from-is (pos 0) ts

pub is_balanced-is : (ts : List Token) → fragments.is_balanced ts ≡ is_balanced ts
is_balanced-is ts =
    (λ i. not (is_empty ts) && list_all is_whole ts && brackets_match-closes ts i)
    ∙ and_assoc (not (is_empty ts)) (list_all is_whole ts) (closes_from (pos 0) ts)

pub is_operand-is : (ts : List Token) → fragments.is_operand ts ≡ is_operand ts
is_operand-is ts =
    (λ i. is_balanced-is ts i && not (has_top_level-is is_joining ts i) && not (begins_with (is_word (codes "NOT")) ts))
    ∙ and_assoc (is_balanced ts) (not (has_top_level is_joining ts)) (not (begins_with (is_word (codes "NOT")) ts))

-- ---- as the code counts: so many tokens raised the depth, and so many lowered it

pub after-counted : (n m : ℕ) (t : Token) → after (pos n -ℤ pos m) t ≡ pos (n + weight raises t) -ℤ pos (m + weight lowers t)
after-counted n m t = let moved = after-is (pos n -ℤ pos m) t in omega (arith, ints, moved)

pub zero-counted : (n m : ℕ) → is_zero (pos n -ℤ pos m) ≡ eqb n m
zero-counted n m = sym (zero-is (pos n -ℤ pos m)) ∙ grind (arith, ints, nat_tests)

pub least-counted : (n m : ℕ) → is_at_least_0 (pos n -ℤ pos m) ≡ leb m n
least-counted n m = sym (least-is (pos n -ℤ pos m)) ∙ grind (arith, ints, nat_tests)

pub top_level-read : (test : Token → Bool) (n m : ℕ) (t : Token) (ts behind : List Token) → ts ≡ t ∷ behind
    → has_top_level_from test (pos n -ℤ pos m) ts
    ≡ ((test t && eqb n m) || has_top_level_from test (pos (n + weight raises t) -ℤ pos (m + weight lowers t)) behind)
top_level-read test n m t ts behind is = rw (is, zero-counted n m, after-counted n m t, ← top_level-place test (eqb n m) t) refl

-- Balanced, none of these words top-level, and none of those first, where the depth before the tokens is l. Before them may be
-- others, so `empty` says whether a first token is still to come.
pub balances : (barred first : Token → Bool) → Bool → ℤ → List Token → Bool
balances barred first empty l ts =
    not (empty && is_empty ts) && list_all is_whole ts && closes_from l ts && not (has_top_level_from barred l ts) && not (empty && begins_with first ts)

pub balances-is : (barred first : Token → Bool) (ts : List Token)
    → balances barred first true (pos 0) ts ≡ (fragments.is_balanced ts && not (fragments.has_top_level barred ts) && not (begins_with first ts))
unfolding balances
balances-is barred first ts = λ i.
    not (is_empty ts) && list_all is_whole ts && sym (brackets_match-closes ts) i && not (sym (has_top_level-is barred ts) i) && not (begins_with first ts)

pub balances-end : (barred first : Token → Bool) (empty : Bool) (n m : ℕ) (ts : List Token) → ts ≡ []
    → balances barred first empty (pos n -ℤ pos m) ts ≡ (not empty && eqb n m)
unfolding balances
balances-end barred first empty n m ts is = simp (is, zero-counted n m, and-true, and-false)

pub balances-read : (barred first : Token → Bool) (empty : Bool) (n m : ℕ) (t : Token) (ts behind : List Token) → ts ≡ t ∷ behind
    → balances barred first empty (pos n -ℤ pos m) ts
    ≡ (not (empty && first t || eqb n m && barred t) && (is_whole t && leb (m + weight lowers t) (n + weight raises t))
    && balances barred first false (pos (n + weight raises t) -ℤ pos (m + weight lowers t)) behind)
unfolding balances
balances-read barred first empty n m t ts behind is =
    rw (is, zero-counted n m, after-counted n m t, least-counted (n + weight raises t) (m + weight lowers t), ← top_level-place barred (eqb n m) t)
    (parted empty (first t) (eqb n m) (barred t) (is_whole t) _ (list_all is_whole behind) _ _)
  where
    parted : (empty first top barred whole high all even later : Bool)
        → (not (empty && false) && (whole && all) && (high && even) && not ((barred && top) || later) && not (empty && first))
        ≡ (not (empty && first || top && barred) && (whole && high) && (true && all && even && not later && true))
    parted empty first top barred whole high all even later = grind arith
