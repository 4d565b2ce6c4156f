-- The sides of OR, AND and NOT, read from the front of a list of tokens.
use Rattle.sql_parts.proofs.Imports.{arith, ◌≡◌, refl, sym, ◌∙◌, ap, suc, Bool, true, false, not, ◌&&◌, ◌||◌, List, [], ◌∷◌, list_all, and_assoc}
use Rattle.sql_parts.specs.{Token, has_left_sides, has_right_sides, is_at, is_before, is_closing, is_opening, needs_left, needs_right, places}
use Rattle.sql_parts.proofs.fragments.DepthFacts.{each_place}

abbrev may_join : Token → Bool
may_join token = not (is_opening token)

abbrev may_follow : Token → Bool
may_follow token = not (is_closing token)

abbrev pub has_left_from : Bool → List Token → Bool
has_left_from before [] = true
has_left_from before (token ∷ ts) = (not (needs_left token) || before) && has_left_from (may_join token) ts

left_behind : (first : Token) (ts : List Token) → list_all (is_at may_join (first ∷ ts)) (places needs_left ts) ≡ has_left_from (may_join first) ts
left_behind first [] = refl
left_behind first (token ∷ ts) =
    each_place (is_at may_join (first ∷ token ∷ ts)) (needs_left token) (places needs_left ts)
    ∙ ap (λ b. (not (needs_left token) || may_join first) && b) (left_behind token ts)

left-is : (ts : List Token) → has_left_sides ts ≡ has_left_from false ts
left-is [] = refl
left-is (token ∷ ts) =
    each_place (is_before may_join (token ∷ ts)) (needs_left token) (places needs_left ts)
    ∙ ap (λ b. (not (needs_left token) || false) && b) (left_behind token ts)

abbrev pub has_right_from : List Token → Bool
has_right_from [] = true
has_right_from (token ∷ ts) = (not (needs_right token) || is_at may_follow ts 0) && has_right_from ts

right-is : (ts : List Token) → has_right_sides ts ≡ has_right_from ts
right-is [] = refl
right-is (token ∷ ts) =
    each_place (λ place. is_at may_follow (token ∷ ts) (suc place)) (needs_right token) (places needs_right ts)
    ∙ ap (λ b. (not (needs_right token) || is_at may_follow ts 0) && b) (right-is ts)

-- Read from the front: at its place an operand may have to begin, or a word before it may want one.
abbrev pub has_sides_from : Bool → Bool → List Token → Bool
has_sides_from begins wants [] = not wants
has_sides_from begins wants (token ∷ ts) = not (begins && needs_left token)
    && (not (wants && is_closing token) && has_sides_from (is_opening token) (needs_right token) ts)

none : (begins wants : Bool) → (true && ((not wants || false) && true)) ≡ not wants
none begins wants = grind arith

one : (begins wants left closing behind rest right : Bool)
    → (((not left || not begins) && behind) && ((not wants || not closing) && (rest && right)))
    ≡ (not (begins && left) && (not (wants && closing) && (behind && (rest && right))))
one begins wants left closing behind rest right = grind arith

sides : (begins wants : Bool) (ts : List Token)
    → (has_left_from (not begins) ts && ((not wants || is_at may_follow ts 0) && has_right_from ts)) ≡ has_sides_from begins wants ts
sides begins wants [] = none begins wants
sides begins wants (token ∷ ts) =
    one begins wants (needs_left token) (is_closing token) (has_left_from (may_join token) ts) (not (needs_right token) || is_at may_follow ts 0)
    (has_right_from ts)
    ∙ ap (λ b. not (begins && needs_left token) && (not (wants && is_closing token) && b)) (sides (is_opening token) (needs_right token) ts)

pub sides-are : (ts : List Token) → (has_left_sides ts && has_right_sides ts) ≡ has_sides_from true false ts
sides-are ts = (λ i. left-is ts i && right-is ts i) ∙ sides true false ts

-- a token that doesn't fit
pub violation : (begins wants : Bool) (token : Token) (ts : List Token) → (not (begins && needs_left token) && not (wants && is_closing token)) ≡ false
    → has_sides_from begins wants (token ∷ ts) ≡ false
violation begins wants token ts is = sym (and_assoc (not (begins && needs_left token)) (not (wants && is_closing token)) _)
    ∙ ap (λ b. b && has_sides_from (is_opening token) (needs_right token) ts) is

-- and one that does
pub fit : (begins wants : Bool) (token : Token) (ts : List Token) → (not (begins && needs_left token) && not (wants && is_closing token)) ≡ true
    → has_sides_from begins wants (token ∷ ts) ≡ has_sides_from (is_opening token) (needs_right token) ts
fit begins wants token ts is = sym (and_assoc (not (begins && needs_left token)) (not (wants && is_closing token)) _)
    ∙ ap (λ b. b && has_sides_from (is_opening token) (needs_right token) ts) is
