-- Comparisons are atoms.
use Rattle.sql_builder.proofs.Imports.{◌≡◌, refl, ◌∙◌, ap, ℕ, true, false, not, List, [], ◌∷◌, ◌++◌, pos, ℤ, and_parts, and_left, and_right, false≢true}
use Rattle.sql_builder.proofs.Imports.{not-true, cond-false, list_any, Token, begins_with, ends_with, in_brackets, after, at_end, closes_from, has_top_level}
use Rattle.sql_builder.proofs.Imports.{is_at_least_1, is_balanced, is_even, is_operand, placed, stays_inside, Nested, TopLevel, is_joining, at_top_level}
use Rattle.sql_builder.proofs.Imports.{is_symbol}
use Rattle.sql_builder.proofs.tokens.{and_word, between_word, has_clause, in_word, is_null_word, like_word, not_word, null_word, at_end-closes, but_last-append}
use Rattle.sql_builder.proofs.tokens.{none-append, without_owned-plain, none-joined, even_closes}
use Rattle.sql_builder.proofs.truth.FormLemmas.{truth_is, is_bracketed, placed_ands}
use Rattle.sql_builder.proofs.truth.ConnectiveLemmas.{placed-then, no_or, no_and, none-brackets, without_owned-all}
use Rattle.sql_builder.specs.{but_last, IsAtom, inside, is_and, is_not, is_or, truth, truth_by, value_in, without_owned}

-- what is known of an operand
operand_closes : (f : List Token) → is_operand f ≡ true → closes_from (pos 0) f ≡ true
operand_closes f h = (and_parts _ _ (and_parts _ _ (and_parts (is_balanced f) _ h).0).1).1

operand_ends : (f : List Token) → is_operand f ≡ true → at_end (pos 0) f ≡ pos 0
operand_ends f h = at_end-closes (pos 0) f (operand_closes f h)

pub operand_plain : (f : List Token) → is_operand f ≡ true → has_top_level is_joining f ≡ false
operand_plain f h = not-true _ (and_parts (not (has_top_level is_joining f)) (not (begins_with is_not f)) (and_parts (is_balanced f) _ h).1).0

operand_no_not : (f r : List Token) → is_operand f ≡ true → begins_with is_not (f ++ r) ≡ false
operand_no_not [] r h = absurd (false≢true h)
operand_no_not (t ∷ f) r h = not-true _ (and_parts (not (has_top_level is_joining (t ∷ f))) (not (begins_with is_not (t ∷ f)))
    (and_parts (is_balanced (t ∷ f)) _ h).1).1

-- the depth is 0 after what ends there
not_inside : (l : ℤ) (t : Token) (f r : List Token) → at_end l (t ∷ f) ≡ pos 0 → stays_inside l (t ∷ f ++ r) ≡ false
not_inside l t [] r h = and_left (is_at_least_1 (after l t)) (stays_inside (after l t) r) (ap is_at_least_1 h)
not_inside l t (u ∷ f) r h = and_right (is_at_least_1 (after l t)) (stays_inside (after l t) (u ∷ f ++ r)) (not_inside (after l t) u f r h)

not_bracketed : (f : List Token) (t : Token) (q : List Token) → is_operand f ≡ true → is_bracketed (f ++ t ∷ q) ≡ false
not_bracketed [] t q h = absurd (false≢true h)
not_bracketed (u ∷ f) t q h =
    let whole = u ∷ f ++ t ∷ q in
    and_right (begins_with (is_symbol 40) whole) _
    (and_right (ends_with (is_symbol 41) whole) _ (and_left (stays_inside (pos 0) (but_last whole)) (not (has_clause (inside whole)))
    (ap (stays_inside (pos 0)) (but_last-append (u ∷ f) t q) ∙ not_inside (pos 0) u f (but_last (t ∷ q)) (operand_ends (u ∷ f) h))))

-- behind an operand, what has no top-level OR and no top-level AND but those of BETWEEN
pub atom : (f : List Token) (t : Token) (q : List Token) → is_operand f ≡ true → has_top_level is_or (t ∷ q) ≡ false
    → list_any (at_top_level is_and) (placed_ands (t ∷ q)) ≡ false → IsAtom (f ++ t ∷ q)
atom f t q h ors ands facts =
    let both : placed (f ++ t ∷ q) ≡ placed f ++ placed (t ∷ q) = placed-then f (t ∷ q) (operand_ends f h) in
    let plain = operand_plain f h in
    truth_is facts (f ++ t ∷ q)
    ∙ ap (truth_by (truth facts) (value_in facts (f ++ t ∷ q)))
    (cond-false _ _ _ (ap (list_any (at_top_level is_or)) both ∙ none-append is_or (placed f) (placed (t ∷ q)) (no_or (placed f) plain) ors)
    ∙ cond-false _ _ _ (ap (λ ms. list_any (at_top_level is_and) (without_owned false ms)) both
    ∙ ap (list_any (at_top_level is_and)) (without_owned-plain false (placed f) (placed (t ∷ q)) plain)
    ∙ none-append is_and (placed f) (placed_ands (t ∷ q)) (no_and (placed f) plain) ands)
    ∙ cond-false _ _ _ (operand_no_not f (t ∷ q) h)
    ∙ cond-false _ _ _ (not_bracketed f t q h))

-- what has no top-level OR, AND or BETWEEN
pub atom_plain : (f : List Token) (t : Token) (q : List Token) → is_operand f ≡ true → has_top_level is_joining (t ∷ q) ≡ false → IsAtom (f ++ t ∷ q)
atom_plain f t q h plain = atom f t q h (no_or (placed (t ∷ q)) plain) (ap (list_any (at_top_level is_and)) (without_owned-all (placed (t ∷ q)) plain)
    ∙ no_and (placed (t ∷ q)) plain)

pub atom_like : (f : List Token) (mask : List ℕ) → is_operand f ≡ true → IsAtom (f ++ like_word ∷ Token.Str mask ∷ [])
atom_like f mask h = atom_plain f like_word (Token.Str mask ∷ []) h refl

pub atom_not_like : (f : List Token) (mask : List ℕ) → is_operand f ≡ true → IsAtom (f ++ not_word ∷ like_word ∷ Token.Str mask ∷ [])
atom_not_like f mask h = atom_plain f not_word (like_word ∷ Token.Str mask ∷ []) h refl

pub atom_null : (f : List Token) → is_operand f ≡ true → IsAtom (f ++ is_null_word ∷ null_word ∷ [])
atom_null f h = atom_plain f is_null_word (null_word ∷ []) h refl

pub atom_not_null : (f : List Token) → is_operand f ≡ true → IsAtom (f ++ is_null_word ∷ not_word ∷ null_word ∷ [])
atom_not_null f h = atom_plain f is_null_word (not_word ∷ null_word ∷ []) h refl

-- the AND of a BETWEEN is owned
between_or : (a b : List Token) → is_operand a ≡ true → is_operand b ≡ true → has_top_level is_or (between_word ∷ a ++ and_word ∷ b) ≡ false
between_or a b h k = none-joined is_or a (and_word ∷ b) (operand_closes a h) (no_or (placed a) (operand_plain a h)) (no_or (placed b) (operand_plain b k))

between_and : (a b : List Token) → is_operand a ≡ true → is_operand b ≡ true → list_any (at_top_level is_and) (placed_ands (between_word ∷ a ++ and_word ∷ b))
    ≡ false
between_and a b h k =
    ap (λ ms. list_any (at_top_level is_and) (without_owned true ms)) (placed-then a (and_word ∷ b) (operand_ends a h))
    ∙ ap (list_any (at_top_level is_and)) (without_owned-plain true (placed a) (TopLevel and_word ∷ placed b) (operand_plain a h))
    ∙ none-append is_and (placed a) (Nested and_word ∷ placed_ands b) (no_and (placed a) (operand_plain a h))
    (ap (list_any (at_top_level is_and)) (without_owned-all (placed b) (operand_plain b k)) ∙ no_and (placed b) (operand_plain b k))

pub atom_between : (f a b : List Token) → is_operand f ≡ true → is_operand a ≡ true → is_operand b ≡ true → IsAtom (f ++ between_word ∷ (a ++ and_word ∷ b))
atom_between f a b h k l = atom f between_word (a ++ and_word ∷ b) h (between_or a b k l) (between_and a b k l)

pub atom_not_between : (f a b : List Token) → is_operand f ≡ true → is_operand a ≡ true → is_operand b ≡ true
    → IsAtom (f ++ not_word ∷ between_word ∷ (a ++ and_word ∷ b))
atom_not_between f a b h k l = atom f not_word (between_word ∷ a ++ and_word ∷ b) h (between_or a b k l) (between_and a b k l)

-- whatever is balanced may be in the brackets of IN
pub atom_in : (f ts : List Token) → is_operand f ≡ true → is_even ts ≡ true → IsAtom (f ++ in_word ∷ in_brackets ts)
atom_in f ts h k = atom_plain f in_word (in_brackets ts) h (none-brackets is_joining ts refl (even_closes ts k))

pub atom_not_in : (f ts : List Token) → is_operand f ≡ true → is_even ts ≡ true → IsAtom (f ++ not_word ∷ in_word ∷ in_brackets ts)
atom_not_in f ts h k = atom_plain f not_word (in_word ∷ in_brackets ts) h (none-brackets is_joining ts refl (even_closes ts k))
