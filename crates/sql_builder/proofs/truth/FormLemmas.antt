-- The parts of a form are shorter than the whole, so that more steps change no truth.
use Rattle.sql_builder.proofs.Imports.{code, not, ◌&&◌, ◌≡◌, refl, sym, ◌∙◌, ap, subst, ℕ, zero, suc, ◌+◌, ◌<◌, ◌≤◌, Bool, true, false, cond, List, [], ◌∷◌}
use Rattle.sql_builder.proofs.Imports.{map, length, drop, ◌⊎◌, inl, inr, arith, pos, ℤ, or_cases, false≢true, list_any, AllByRecursion, Token, begins_with}
use Rattle.sql_builder.proofs.Imports.{ends_with, after, has_top_level, has_top_level-is, inside-is, placed, placed-is, placed_from, stays_inside, Nested}
use Rattle.sql_builder.proofs.Imports.{TopLevel, Placed, is_clause_word, at_top_level, is_symbol, token_of}
use Rattle.sql_builder.specs.{Parts, but_last, parts_at, parts_between, with_front, AllOf, AnyOf, Atom, Bracketed, Fact, Form, Negated, Truth, not3, form}
use Rattle.sql_builder.specs.{form_of, or_all, inside, is_and, is_between_last, is_not, is_or, and_all, truth, truth_by, truth_within, value_in, without_owned}
use Rattle.std.proofs.Math.Bool.{and_assoc}
use Rattle.sql_builder.specs.Truths as truths
use Rattle.sql_builder.proofs.tokens.WhereTokenFacts.{has_clause}

-- the tokens with their places, where the ANDs of BETWEEN do not count
abbrev pub placed_ands : List Token → List Placed
placed_ands ts = without_owned false (placed ts)

abbrev pub is_bracketed : List Token → Bool
is_bracketed ts =
    begins_with (is_symbol (code "(")) ts && (ends_with (is_symbol (code ")")) ts && (stays_inside (pos 0) (but_last ts) && not (has_clause (inside ts))))

-- the form, by depths that go along with the tokens
abbrev pub form_by_depth : List Token → Form
form_by_depth ts = form_of (placed ts) (is_bracketed ts) ts

bracketed-is : (ts : List Token) → truths.is_bracketed ts ≡ is_bracketed ts
bracketed-is ts =
    (λ i. begins_with (is_symbol (code "(")) ts && ends_with (is_symbol (code ")")) ts && inside-is (but_last ts) i
    && not (has_top_level-is is_clause_word (inside ts) i))
    ∙ and_assoc (begins_with (is_symbol (code "(")) ts && ends_with (is_symbol (code ")")) ts) (stays_inside (pos 0) (but_last ts))
    (not (has_clause (inside ts)))
    ∙ and_assoc (begins_with (is_symbol (code "(")) ts) (ends_with (is_symbol (code ")")) ts)
    (stays_inside (pos 0) (but_last ts) && not (has_clause (inside ts)))

form-is : (ts : List Token) → form ts ≡ form_by_depth ts
form-is ts = λ i. form_of (placed-is ts i) (bracketed-is ts i) ts

length-placed : (l : ℤ) (ts : List Token) → length (placed_from l ts) ≡ length ts
length-placed l [] = refl
length-placed l (t ∷ ts) = ap suc (length-placed (after l t) ts)

length-without_owned : (owned : Bool) (ms : List Placed) → length (without_owned owned ms) ≡ length ms
length-without_owned owned [] = refl
length-without_owned owned (Nested t ∷ ms) = ap suc (length-without_owned owned ms)
length-without_owned owned (TopLevel t ∷ ms) = ap suc (length-without_owned (is_between_last owned t) ms)

-- the separators and the tokens behind them
abbrev weight : List (Token × List Token) → ℕ
weight [] = 0
weight (part ∷ parts) = suc (length part.1 + weight parts)

weight_front : (is : Bool) (t : Token) (parts : Parts) → length (with_front is t parts).lead + weight (with_front is t parts).rest
    ≡ suc (length parts.lead + weight parts.rest)
weight_front true t parts = omega arith
weight_front false t parts = omega arith

weight_all : (test : Token → Bool) (ms : List Placed) → length (parts_at test ms).lead + weight (parts_at test ms).rest ≡ length ms
weight_all test [] = refl
weight_all test (m ∷ ms) = weight_front (at_top_level test m) (token_of m) (parts_at test ms) ∙ ap suc (weight_all test ms)

-- the lists are shorter than n
abbrev Below : ℕ → List (List Token) → Type 0
Below n parts = AllByRecursion (λ (p : List Token). length p < n) parts

rest_below : (n : ℕ) (parts : List (Token × List Token)) → weight parts ≤ n → Below n (map (λ (part : Token × List Token). part.1) parts)
rest_below n [] h = tt
rest_below n (part ∷ parts) h = (omega arith, rest_below n parts (omega arith))

-- there is a separator, so that each part is shorter
front_weight : (is : Bool) (t : Token) (parts : Parts) → (is ≡ true) ⊎ (1 ≤ weight parts.rest) → 1 ≤ weight (with_front is t parts).rest
front_weight true t parts h = omega arith
front_weight false t parts (inl h) = absurd (false≢true h)
front_weight false t parts (inr h) = h

later : {A B C : Type 0} → (B → C) → A ⊎ B → A ⊎ C
later f (inl e) = inl e
later f (inr e) = inr (f e)

some_weight : (test : Token → Bool) (ms : List Placed) → list_any (at_top_level test) ms ≡ true → 1 ≤ weight (parts_at test ms).rest
some_weight test [] h = absurd (false≢true h)
some_weight test (m ∷ ms) h = front_weight (at_top_level test m) (token_of m) (parts_at test ms) (later (some_weight test ms) (or_cases _ _ h))

parts_below : (test : Token → Bool) (ms : List Placed) → list_any (at_top_level test) ms ≡ true → Below (length ms) (parts_between test ms)
parts_below test ms h =
    let some : 1 ≤ weight (parts_at test ms).rest = some_weight test ms h in
    let all : length (parts_at test ms).lead + weight (parts_at test ms).rest ≡ length ms = weight_all test ms in
    (omega arith, rest_below (length ms) (parts_at test ms).rest (omega arith))

-- the parts that a form has
abbrev parts_in : Form → List (List Token)
parts_in (AnyOf parts) = parts
parts_in (AllOf parts) = parts
parts_in (Negated rest) = rest ∷ []
parts_in (Bracketed inner) = inner ∷ []
parts_in Atom = []

length-but_last : (ts : List Token) → length (but_last ts) ≤ length ts
length-but_last [] = omega arith
length-but_last (t ∷ []) = omega arith
length-but_last (t ∷ u ∷ us) = let h : length (but_last (u ∷ us)) ≤ length (u ∷ us) = length-but_last (u ∷ us) in omega arith

drop_below : (test : Token → Bool) (ts : List Token) → begins_with test ts ≡ true → length (drop 1 ts) < length ts
drop_below test [] h = absurd (false≢true h)
drop_below test (t ∷ ts) h = omega arith

inside_below : (ts : List Token) → is_bracketed ts ≡ true → length (inside ts) < length ts
inside_below [] h = absurd (false≢true h)
inside_below (t ∷ ts) h = let short : length (but_last ts) ≤ length ts = length-but_last ts in omega arith

any_below : (ts : List Token) → has_top_level is_or ts ≡ true → Below (length ts) (parts_between is_or (placed ts))
any_below ts h = subst (λ n. Below n (parts_between is_or (placed ts))) (length-placed (pos 0) ts) (parts_below is_or (placed ts) h)

all_below : (ts : List Token) → list_any (at_top_level is_and) (placed_ands ts) ≡ true → Below (length ts) (parts_between is_and (placed_ands ts))
all_below ts h = subst (λ n. Below n (parts_between is_and (placed_ands ts))) (length-without_owned false (placed ts) ∙ length-placed (pos 0) ts)
    (parts_below is_and (placed_ands ts) h)

-- the choice of a form by four tests
choose : (P : Form → Type 0) (any all negated bracketed : Bool) (a b c d : Form) → (any ≡ true → P a) → (all ≡ true → P b) → (negated ≡ true → P c)
    → (bracketed ≡ true → P d) → P Atom → P (cond any a (cond all b (cond negated c (cond bracketed d Atom))))
choose P true all negated bracketed a b c d f g h k e = f refl
choose P false true negated bracketed a b c d f g h k e = g refl
choose P false false true bracketed a b c d f g h k e = h refl
choose P false false false true a b c d f g h k e = k refl
choose P false false false false a b c d f g h k e = e

-- each part of a form is shorter than the whole
form_by_depth_below : (ts : List Token) → Below (length ts) (parts_in (form_by_depth ts))
form_by_depth_below ts = choose (λ s. Below (length ts) (parts_in s)) (has_top_level is_or ts) (list_any (at_top_level is_and) (placed_ands ts))
    (begins_with is_not ts) (is_bracketed ts) (AnyOf (parts_between is_or (placed ts))) (AllOf (parts_between is_and (placed_ands ts))) (Negated (drop 1 ts))
    (Bracketed (inside ts)) (any_below ts) (all_below ts) (λ h. (drop_below is_not ts h, tt)) (λ h. (inside_below ts h, tt)) tt

form_below : (ts : List Token) → Below (length ts) (parts_in (form ts))
form_below ts = subst (λ s. Below (length ts) (parts_in s)) (sym (form-is ts)) (form_by_depth_below ts)

map_same : (f g : List Token → Truth) (parts : List (List Token)) → AllByRecursion (λ (p : List Token). f p ≡ g p) parts → map f parts ≡ map g parts
map_same f g [] h = refl
map_same f g (p ∷ parts) (e, h) = cc (map_same f g parts h)

-- only the truths of the parts count
truth_by_same : (f g : List Token → Truth) (value : Truth) (s : Form) → AllByRecursion (λ (p : List Token). f p ≡ g p) (parts_in s) → truth_by f value s
    ≡ truth_by g value s
truth_by_same f g value (AnyOf parts) h = ap or_all (map_same f g parts h)
truth_by_same f g value (AllOf parts) h = ap and_all (map_same f g parts h)
truth_by_same f g value (Negated rest) h = ap not3 h.0
truth_by_same f g value (Bracketed inner) h = h.0
truth_by_same f g value Atom h = refl

same_below : (f g : List Token → Truth) (n : ℕ) → ((p : List Token) → length p < n → f p ≡ g p) → (parts : List (List Token)) → Below n parts
    → AllByRecursion (λ (p : List Token). f p ≡ g p) parts
same_below f g n same [] h = tt
same_below f g n same (p ∷ parts) h = (same p h.0, same_below f g n same parts h.1)

empty_within : (m : ℕ) (facts : List Fact) → truth_within m facts [] ≡ value_in facts []
empty_within zero facts = refl
empty_within (suc m) facts = refl

-- as many steps as there are tokens are enough
truth_within_same : (n m : ℕ) (facts : List Fact) (ts : List Token) → length ts ≤ n → length ts ≤ m → truth_within n facts ts ≡ truth_within m facts ts
truth_within_same zero m facts [] h k = sym (empty_within m facts)
truth_within_same zero m facts (t ∷ ts) h k = absurd (omega arith)
truth_within_same (suc n) zero facts [] h k = empty_within (suc n) facts
truth_within_same (suc n) zero facts (t ∷ ts) h k = absurd (omega arith)
truth_within_same (suc n) (suc m) facts ts h k =
    truth_by_same (truth_within n facts) (truth_within m facts) (value_in facts ts) (form ts)
    (same_below (truth_within n facts) (truth_within m facts) (length ts) (λ p short. truth_within_same n m facts p (omega arith) (omega arith))
    (parts_in (form ts)) (form_below ts))

-- the truth is by the form, from the truths of the parts
pub truth_is : (facts : List Fact) (ts : List Token) → truth facts ts ≡ truth_by (truth facts) (value_in facts ts) (form_by_depth ts)
unfolding truth
truth_is facts [] = refl
truth_is facts (t ∷ ts) =
    truth_by_same (truth_within (length ts) facts) (truth facts) (value_in facts (t ∷ ts)) (form (t ∷ ts))
    (same_below (truth_within (length ts) facts) (truth facts) (length (t ∷ ts))
    (λ p short. truth_within_same (length ts) (length p) facts p (omega arith) (omega arith)) (parts_in (form (t ∷ ts))) (form_below (t ∷ ts)))
    ∙ ap (truth_by (truth facts) (value_in facts (t ∷ ts))) (form-is (t ∷ ts))
