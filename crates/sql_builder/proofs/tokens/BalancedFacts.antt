-- What is made of balanced lists is balanced, and what is made of conditions is a condition.
use Rattle.sql_builder.proofs.Imports.{◌≡◌, refl, sym, ◌∙◌, ℕ, ap, Bool, true, false, not, ◌||◌, List, [], ◌∷◌, ◌++◌, pos, and_parts}
use Rattle.sql_builder.proofs.Imports.{and_from, or_from, false≢true, not-true, not_from_false, list_all-append, list_any-append, list_any, list_all, Token}
use Rattle.sql_builder.proofs.Imports.{is_empty, tokens, closed, after, at_end, closes_from, has_top_level, is_at_least_0, is_balanced, is_even, is_operand, placed}
use Rattle.sql_builder.proofs.Imports.{placed_from, is_balanced-is, is_clause_word, is_joining, at_top_level, is_whole, balanced, balanced_whole}
use Rattle.sql_builder.specs.{group_tokens, joined}
use Rattle.sql_builder.specs.WhereTokens.{in_brackets}
use Rattle.sql_builder.proofs.tokens.WhereTokenFacts.{is_condition, is_group, has_clause, or_word, right_bracket}
use Rattle.sql_builder.proofs.tokens.DepthFacts.{closes_from-append, at_end-append, at_end-closes, closes-stays, ends-up, stays_from, stays-both, stays-up}
use Rattle.sql_builder.proofs.tokens.PartFacts.{none-append}
use Rattle.sql_builder.proofs.truth.ConnectiveLemmas.{none-brackets, placed-then}

whole-append : (a b : List Token) → list_all is_whole a ≡ true → list_all is_whole b ≡ true → list_all is_whole (a ++ b) ≡ true
whole-append a b h k = list_all-append is_whole a b ∙ and_from _ _ h k

pub is_even-append : (a b : List Token) → is_even a ≡ true → is_even b ≡ true → is_even (a ++ b) ≡ true
is_even-append a b h k =
    let ha = and_parts (list_all is_whole a) (closes_from (pos 0) a) h in
    let hb = and_parts (list_all is_whole b) (closes_from (pos 0) b) k in
    and_from _ _ (whole-append a b ha.0 hb.0) (closes_from-append (pos 0) a b ha.1 hb.1)

pub is_balanced-append : (a b : List Token) → is_balanced a ≡ true → is_even b ≡ true → is_balanced (a ++ b) ≡ true
is_balanced-append [] b h k = absurd (false≢true h)
is_balanced-append (t ∷ a) b h k = is_even-append (t ∷ a) b h k

-- no test finds a top-level token in a list that is joined, if in neither
pub none-joined : (test : Token → Bool) (a b : List Token) → closes_from (pos 0) a ≡ true → has_top_level test a ≡ false → has_top_level test b ≡ false
    → has_top_level test (a ++ b) ≡ false
none-joined test a b closes h k = ap (list_any (at_top_level test)) (placed-then a b (at_end-closes (pos 0) a closes))
    ∙ none-append test (placed a) (placed b) h k

-- one deeper, and a `)` after it
closes-bracket : (ts : List Token) → closes_from (pos 0) ts ≡ true → closes_from (pos 1) (ts ++ right_bracket ∷ []) ≡ true
closes-bracket ts h =
    let end : at_end (pos 1) ts ≡ pos 1 = ends-up 1 ts h in
    closes-stays (pos 1) (ts ++ right_bracket ∷ [])
    (stays-both (pos 1) ts (right_bracket ∷ []) (stays-up 1 ts h) (ap (λ l. stays_from l (right_bracket ∷ [])) end))
    (at_end-append (pos 1) ts (right_bracket ∷ []) ∙ ap (λ l. at_end l (right_bracket ∷ [])) end)

pub is_even-brackets : (ts : List Token) → is_even ts ≡ true → is_even (in_brackets ts) ≡ true
unfolding in_brackets
is_even-brackets ts h =
    let both = and_parts (list_all is_whole ts) (closes_from (pos 0) ts) h in
    and_from _ _ (whole-append ts (right_bracket ∷ []) both.0 refl) (closes-bracket ts both.1)

pub is_balanced-brackets : (ts : List Token) → is_even ts ≡ true → is_balanced (in_brackets ts) ≡ true
unfolding in_brackets
is_balanced-brackets ts h = is_even-brackets ts h

-- whatever is in brackets: the clause words there are not top-level
pub no_clause-brackets : (ts : List Token) → is_even ts ≡ true → has_clause (in_brackets ts) ≡ false
no_clause-brackets ts h = none-brackets is_clause_word ts refl (and_parts (list_all is_whole ts) (closes_from (pos 0) ts) h).1

-- so a query in brackets is an operand
pub is_operand-brackets : (ts : List Token) → is_even ts ≡ true → is_operand (in_brackets ts) ≡ true
unfolding in_brackets
is_operand-brackets ts h = and_from _ _ (is_balanced-brackets ts h)
    (and_from _ _ (not_from_false _ (none-brackets is_joining ts refl (and_parts (list_all is_whole ts) (closes_from (pos 0) ts) h).1)) refl)

pub balanced_even : (ts : List Token) → is_balanced ts ≡ true → is_even ts ≡ true
balanced_even ts h = (and_parts (not (is_empty ts)) (is_even ts) h).1

pub even_closes : (ts : List Token) → is_even ts ≡ true → closes_from (pos 0) ts ≡ true
even_closes ts h = (and_parts (list_all is_whole ts) (closes_from (pos 0) ts) h).1

-- a top-level token of a list that is joined is one of a part
pub has_top_level-append : (test : Token → Bool) (a b : List Token) → is_even a ≡ true
    → has_top_level test (a ++ b) ≡ (has_top_level test a || has_top_level test b)
has_top_level-append test a b h = ap (list_any (at_top_level test)) (placed-then a b (at_end-closes (pos 0) a (even_closes a h)))
    ∙ list_any-append (at_top_level test) (placed a) (placed b)

-- a condition, and more that is no clause
pub is_condition-append : (a b : List Token) → is_condition a ≡ true → is_even b ≡ true → has_clause b ≡ false → is_condition (a ++ b) ≡ true
is_condition-append a b h even none =
    let ha = and_parts (is_balanced a) (not (has_clause a)) h in
    and_from _ _ (is_balanced-append a b ha.0 even)
    (not_from_false _ (has_top_level-append is_clause_word a b (balanced_even a ha.0) ∙ or_from _ _ (not-true _ ha.1) none))

-- ---- the same of texts

pub even_text : (text : List ℕ) → balanced text ≡ true → is_even (tokens text) ≡ true
even_text text h = balanced_even (tokens text) (sym (is_balanced-is (tokens text)) ∙ h)

-- what is balanced is closed
pub balanced_closed : (text : List ℕ) → balanced text ≡ true → closed text ≡ true
balanced_closed text h = (balanced_whole text h).0

-- ---- conditions that are joined

-- a separator that is no bracket, no clause word and not `;`
pub record IsPlain (s : Token) : Type 0 where
  pub flat : after (pos 0) s ≡ pos 0
  pub whole : is_whole s ≡ true
  pub no_clause : is_clause_word s ≡ false

even_after : (s : Token) (ts : List Token) → IsPlain s → is_even ts ≡ true → is_even (s ∷ ts) ≡ true
even_after s ts plain h =
    let both = and_parts (list_all is_whole ts) (closes_from (pos 0) ts) h in
    and_from _ _ (and_from _ _ plain.whole both.0) (and_from _ _ (ap is_at_least_0 plain.flat) (ap (λ l. closes_from l ts) plain.flat ∙ both.1))

no_clause_after : (s : Token) (ts : List Token) → IsPlain s → has_clause ts ≡ false → has_clause (s ∷ ts) ≡ false
no_clause_after s ts plain h = or_from _ _ plain.no_clause (ap (λ l. list_any (at_top_level is_clause_word) (placed_from l ts)) plain.flat ∙ h)

pub is_condition-joined : (s : Token) (c : List Token) (cs : List (List Token)) → IsPlain s → list_all is_condition (c ∷ cs) ≡ true
    → is_condition (joined s (c ∷ cs)) ≡ true
is_condition-joined s c [] plain h = (and_parts (is_condition c) true h).0
is_condition-joined s c (d ∷ cs) plain h =
    let both = and_parts (is_condition c) (list_all is_condition (d ∷ cs)) h in
    let more = is_condition-joined s d cs plain both.1 in
    let parts = and_parts (is_balanced (joined s (d ∷ cs))) (not (has_clause (joined s (d ∷ cs)))) more in
    is_condition-append c (s ∷ joined s (d ∷ cs)) both.0 (even_after s (joined s (d ∷ cs)) plain (balanced_even (joined s (d ∷ cs)) parts.0))
    (no_clause_after s (joined s (d ∷ cs)) plain (not-true _ parts.1))

or_plain : IsPlain or_word
or_plain = record { flat = refl; whole = refl; no_clause = refl }

pub is_condition-group : (g : List (List Token)) → is_group g ≡ true → is_condition (group_tokens g) ≡ true
is_condition-group [] h = absurd (false≢true h)
is_condition-group (c ∷ cs) h = is_condition-joined or_word c cs or_plain h
