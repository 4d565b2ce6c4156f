-- A text meets what is asked of it exactly where no reason against it holds.
use Rattle.sql_parts.proofs.Imports.{◌≡◌, refl, sym, ◌∙◌, ap, ℕ, suc, Bool, true, false, not, ◌&&◌, ◌||◌, map, List, [], ◌∷◌, Option, None, Some, codes, arith}
use Rattle.sql_parts.proofs.Imports.{is_none, if◌then◌else◌, list_all, list_any, and_parts, and-true, not-not, or-false}
use Rattle.std.specs.Prelude.{find}
use Rattle.sql_parts.specs.{balanced, brackets_match, encloses_clauses, has_clause_word, has_dialect_word, has_top_level, is_balanced, is_clause_word}
use Rattle.sql_parts.specs.{is_dialect_word, is_joining, is_top_level, is_whole, is_word, places, operand, Placed, TopLevel, Nested, at_top_level, holds_of, meets, violation, reasons, ServesAsOperand}
use Rattle.sql_parts.specs.{has_no_clause, is_bare_operand, is_fragment, is_typed_fragment, is_typed_operand, Token, begins_with, closed, has_semicolon}
use Rattle.sql_parts.specs.{is_empty, is_open, is_semicolon, tokens}
use Rattle.sql_parts.specs.declared.violations.Requirement.{Requirement}
use Rattle.sql_parts.specs.declared.violations.Requirement.TheVariants as requirement
use Rattle.sql_parts.specs.declared.violations.Violation.{Violation}
use Rattle.sql_parts.proofs.fragments.DepthFacts.{has_top_level-is, placed}

-- each token is whole where none is open and none is a `;`
pub all_whole : (ts : List Token) → list_all is_whole ts ≡ (not (list_any is_open ts) && not (list_any is_semicolon ts))
all_whole [] = refl
all_whole (token ∷ ts) =
    ap (λ b. is_whole token && b) (all_whole ts) ∙ parted (is_open token) (is_semicolon token) (list_any is_open ts) (list_any is_semicolon ts)
  where
    parted : (shut semicolon shuts semicolons : Bool)
        → ((not shut && not semicolon) && (not shuts && not semicolons)) ≡ (not (shut || shuts) && not (semicolon || semicolons))
    parted shut semicolon shuts semicolons = grind arith

-- a top-level token that passes one of two tests
any_of : (one other : Token → Bool) (ms : List Placed)
    → list_any (at_top_level (λ token. one token || other token)) ms ≡ (list_any (at_top_level one) ms || list_any (at_top_level other) ms)
any_of one other [] = refl
any_of one other (TopLevel token ∷ ms) = let more = any_of one other ms in grind (arith, more)
any_of one other (Nested token ∷ ms) = any_of one other ms

either_top_level : (one other : Token → Bool) (ts : List Token)
    → has_top_level (λ token. one token || other token) ts ≡ (has_top_level one ts || has_top_level other ts)
either_top_level one other ts =
    has_top_level-is (λ token. one token || other token) ts ∙ any_of one other (placed ts)
    ∙ (λ i. sym (has_top_level-is one ts) i || sym (has_top_level-is other ts) i)

never_first : (ts : List Token) → begins_with (λ token. false) ts ≡ false
never_first [] = refl
never_first (token ∷ ts) = refl

-- no place passes a test that no token passes
no_places : (ts : List Token) → places (λ token. false) ts ≡ []
no_places [] = refl
no_places (token ∷ ts) = ap (map suc) (no_places ts)

-- where no words are asked for
pub balanced-alone : (ts : List Token) → (is_balanced ts && not (has_top_level (λ token. false) ts) && not (begins_with (λ token. false) ts)) ≡ is_balanced ts
balanced-alone ts =
    (λ i. is_balanced ts && not (list_any (is_top_level ts) (no_places ts i)) && not (never_first ts i))
    ∙ and-true (is_balanced ts && true) ∙ and-true (is_balanced ts)

-- what one reading says of a fragment, and of an operand without a top-level clause keyword
pub fragment_read : (text : List ℕ)
    → (is_balanced (tokens text) && not (has_top_level (λ token. is_clause_word token || false) (tokens text))
    && not (begins_with (λ token. false) (tokens text)))
    ≡ is_fragment text
fragment_read text =
    (λ i. is_balanced (tokens text) && not (has_top_level (λ token. or-false (is_clause_word token) i) (tokens text)) && not (never_first (tokens text) i))
    ∙ and-true _

pub operand_read : (text : List ℕ)
    → (is_balanced (tokens text) && not (has_top_level (λ token. is_clause_word token || is_joining token) (tokens text))
    && not (begins_with (is_word (codes "NOT")) (tokens text))) ≡ is_bare_operand text
operand_read text =
    ap (λ b. is_balanced (tokens text) && not b && not (begins_with (is_word (codes "NOT")) (tokens text)))
    (either_top_level is_clause_word is_joining (tokens text))
    ∙ spread (balanced text) (has_clause_word text) (has_top_level is_joining (tokens text)) (begins_with (is_word (codes "NOT")) (tokens text))
  where
    spread : (balance word joins first : Bool) → (balance && not (word || joins) && not first) ≡ ((balance && not joins && not first) && not word)
    spread balance word joins first = grind arith

-- and of those by their types, without a top-level word that begins a clause in some databases
pub typed_fragment_read : (text : List ℕ)
    → ((is_balanced (tokens text) && not (has_top_level (λ token. is_clause_word token || (is_dialect_word token || false)) (tokens text))
    && not (begins_with (λ token. false) (tokens text))) && encloses_clauses 0 (tokens text))
    ≡ is_typed_fragment text
typed_fragment_read text =
    (λ i. (is_balanced (tokens text) && not (has_top_level (λ token. is_clause_word token || or-false (is_dialect_word token) i) (tokens text))
    && not (never_first (tokens text) i)) && encloses_clauses 0 (tokens text))
    ∙ ap (λ b. (is_balanced (tokens text) && not b && true) && encloses_clauses 0 (tokens text)) (either_top_level is_clause_word is_dialect_word (tokens text))
    ∙ spread (balanced text) (has_clause_word text) (has_dialect_word text) (encloses_clauses 0 (tokens text))
  where
    spread : (balance word dialect kept : Bool) → ((balance && not (word || dialect) && true) && kept) ≡ ((balance && not word) && (not dialect && kept))
    spread balance word dialect kept = grind arith

pub typed_operand_read : (text : List ℕ)
    → ((is_balanced (tokens text) && not (has_top_level (λ token. is_clause_word token || (is_dialect_word token || is_joining token)) (tokens text))
    && not (begins_with (is_word (codes "NOT")) (tokens text))) && encloses_clauses 0 (tokens text)) ≡ is_typed_operand text
typed_operand_read text =
    ap (λ b. (is_balanced (tokens text) && not b && not (begins_with (is_word (codes "NOT")) (tokens text))) && encloses_clauses 0 (tokens text))
    (either_top_level is_clause_word (λ token. is_dialect_word token || is_joining token) (tokens text)
    ∙ ap (λ b. has_clause_word text || b) (either_top_level is_dialect_word is_joining (tokens text)))
    ∙ spread (balanced text) (has_clause_word text) (has_dialect_word text) (has_top_level is_joining (tokens text))
    (begins_with (is_word (codes "NOT")) (tokens text)) (encloses_clauses 0 (tokens text))
  where
    spread : (balance word dialect joins first kept : Bool) → ((balance && not (word || (dialect || joins)) && not first) && kept)
        ≡ (((balance && not joins && not first) && not word) && (not dialect && kept))
    spread balance word dialect joins first kept = grind arith

-- none is found where none passes
cond_none : {X : Type 0} (passes : Bool) (x : X) (later : Option X) (none : Bool) → is_none later ≡ none
    → is_none (if passes then Some x else later) ≡ not (passes || not none)
cond_none true x later none is = refl
cond_none false x later true is = is
cond_none false x later false is = is

none_found : {X : Type 0} (test : X → Bool) (xs : List X) → is_none (find test xs) ≡ not (list_any test xs)
none_found test [] = refl
none_found test (x ∷ xs) = cond_none (test x) x (find test xs) (not (list_any test xs)) (none_found test xs)
    ∙ ap (λ b. not (test x || b)) (not-not (list_any test xs))

-- no reason holds of a text that meets what is asked
unbroken : (empty shut semicolon match whole : Bool) → whole ≡ (shut && not semicolon)
    → (more : Bool) → not (empty || (not shut || (semicolon || (not match || more)))) ≡ ((not empty && whole && match) && not more)
unbroken empty shut semicolon match whole is more =
    shuffled empty shut semicolon match more ∙ ap (λ b. (not empty && b && match) && not more) (sym is)
  where
    shuffled : (empty shut semicolon match more : Bool)
        → not (empty || (not shut || (semicolon || (not match || more)))) ≡ ((not empty && (shut && not semicolon) && match) && not more)
    shuffled empty shut semicolon match more = grind arith

pub met : (asked : Requirement) (text : List ℕ) → is_none (violation asked text) ≡ meets asked text
unfolding violation
met asked text = none_found (holds_of text) (reasons asked) ∙ by_requirement asked
  where
    spread : (more : Bool) → not (is_empty (tokens text) || (not (closed text) || (has_semicolon text || (not (brackets_match (tokens text)) || more))))
        ≡ (balanced text && not more)
    spread = unbroken (is_empty (tokens text)) (closed text) (has_semicolon text) (brackets_match (tokens text)) (list_all is_whole (tokens text))
        (all_whole (tokens text))

    regroup : (balance word joins first : Bool) → (balance && not (word || ((joins || first) || false))) ≡ ((balance && not joins && not first) && not word)
    regroup balance word joins first = grind arith

    split : (balance word dialect kept : Bool)
        → (balance && not (word || (dialect || (not kept || false)))) ≡ ((balance && not word) && (not dialect && kept))
    split balance word dialect kept = grind arith

    regroup_typed : (balance word dialect joins first kept : Bool) → (balance && not (word || (dialect || ((joins || first) || (not kept || false)))))
        ≡ (((balance && not joins && not first) && not word) && (not dialect && kept))
    regroup_typed balance word dialect joins first kept = grind arith

    by_requirement : (asked : Requirement) → not (list_any (holds_of text) (reasons asked)) ≡ meets asked text
    by_requirement requirement.Balanced = spread false ∙ and-true (balanced text)
    by_requirement requirement.Fragment = spread (has_clause_word text || false) ∙ ap (λ b. balanced text && not b) (or-false (has_clause_word text))
    by_requirement requirement.Operand =
        let joins = has_top_level is_joining (tokens text) in
        let first = begins_with (is_word (codes "NOT")) (tokens text) in
        spread (has_clause_word text || ((joins || first) || false)) ∙ regroup (balanced text) (has_clause_word text) joins first
    by_requirement requirement.TypedFragment =
        let kept = encloses_clauses 0 (tokens text) in
        spread (has_clause_word text || (has_dialect_word text || (not kept || false)))
        ∙ split (balanced text) (has_clause_word text) (has_dialect_word text) kept
    by_requirement requirement.TypedOperand =
        let joins = has_top_level is_joining (tokens text) in
        let first = begins_with (is_word (codes "NOT")) (tokens text) in
        let kept = encloses_clauses 0 (tokens text) in
        spread (has_clause_word text || (has_dialect_word text || ((joins || first) || (not kept || false))))
        ∙ regroup_typed (balanced text) (has_clause_word text) (has_dialect_word text) joins first kept

-- what is left where a text has a token, is closed and has no `;`, and isn't balanced
pub unmatched : (text : List ℕ) → is_empty (tokens text) ≡ false → closed text ≡ true → has_semicolon text ≡ false → balanced text ≡ false
    → brackets_match (tokens text) ≡ false
unmatched text some shut plain fails = left (is_empty (tokens text)) (closed text) (has_semicolon text) (brackets_match (tokens text))
    (list_all is_whole (tokens text)) (all_whole (tokens text)) some shut plain fails
  where
    left : (empty shut semicolon match whole : Bool) → whole ≡ (shut && not semicolon)
        → empty ≡ false → shut ≡ true → semicolon ≡ false → (not empty && whole && match) ≡ false → match ≡ false
    left empty shut semicolon match whole is some is_shut plain fails = grind arith

-- a text that meets what is asked of it has no violation
pub no_violation : (asked : Requirement) (text : List ℕ) → meets asked text ≡ true → violation asked text ≡ None
no_violation asked text is = none_is (violation asked text) (met asked text ∙ is)
  where
    none_is : (given : Option Violation) → is_none given ≡ true → given ≡ None
    none_is None none = refl
    none_is (Some first) none = cc

-- a balanced text is closed and has no `;`
pub balanced_whole : (text : List ℕ) → balanced text ≡ true → (closed text ≡ true) × (not (has_semicolon text) ≡ true)
balanced_whole text is =
    let ts = tokens text in
    let front = and_parts (not (is_empty ts) && list_all is_whole ts) (brackets_match ts) is in
    let whole = and_parts (not (is_empty ts)) (list_all is_whole ts) front.0 in
    and_parts (not (list_any is_open ts)) (not (list_any is_semicolon ts)) (sym (all_whole ts) ∙ whole.1)

-- what is an operand without a top-level clause keyword serves as one
pub serves : (text : List ℕ) → is_bare_operand text ≡ true → ServesAsOperand text
serves text is =
    let ts = tokens text in
    let both = and_parts (operand text) (not (has_clause_word text)) is in
    let front = and_parts (balanced text && not (has_top_level is_joining ts)) (not (begins_with (is_word (codes "NOT")) ts)) both.0 in
    let balance = and_parts (balanced text) (not (has_top_level is_joining ts)) front.0 in
    record { is_operand = both.0; is_balanced = balance.0; is_closed = (balanced_whole text balance.0).0; no_clause_word = both.1 }

-- what fits by its type fits, and serves
pub fragment_of_typed : (text : List ℕ) → is_typed_fragment text ≡ true → is_fragment text ≡ true
fragment_of_typed text is = (and_parts (is_fragment text) (has_no_clause text) is).0

pub typed_serves : (text : List ℕ) → is_typed_operand text ≡ true → ServesAsOperand text
typed_serves text is = serves text (and_parts (is_bare_operand text) (has_no_clause text) is).0
