-- The clauses that tokens parse back as, but for the texts of string tokens.
use Rattle.sql_builder.proofs.Imports.{◌≡◌, refl, sym, ◌∙◌, ap, ℤ, Bool, true, false, cond, List, [], ◌∷◌, map, pos, if◌then◌else◌, suc_ℤ, pred_ℤ}
use Rattle.sql_builder.proofs.Imports.{IgnoresStrings, blank, blank_token, Nested, TopLevel, Placed, as_placed, is_clause_word, at_top_level, lowers, raises}
use Rattle.sql_builder.proofs.Imports.{token_of, Token, Word, Str, Name, Symbol, Open, ends_with, is_semicolon, ignores, after, is_zero, placed_from, placed-is}
use Rattle.sql_parts.specs.Fragments as fragments
use Rattle.sql_parts.proofs.fragments.StringTextFacts.{Ignores, ends-blank, test-blank, token-twice}
use Rattle.sql_builder.specs.{blank_clause, blank_clauses, Parts, before_top_level, but_last, parts_at, with_front, Clause, is_union, read, without_semicolon}

-- ---- the `;` at the end

but_last-blank : (ts : List Token) → but_last (blank ts) ≡ blank (but_last ts)
but_last-blank [] = refl
but_last-blank (t ∷ []) = refl
but_last-blank (t ∷ next ∷ ts) = ap (λ more. blank_token t ∷ more) (but_last-blank (next ∷ ts))

without_semicolon-blank : (ts : List Token) → without_semicolon (blank ts) ≡ blank (without_semicolon ts)
without_semicolon-blank ts =
    (λ i. if ends-blank is_semicolon (λ text. refl) ts i then but_last-blank ts i else blank ts) ∙ by (ends_with is_semicolon ts)
  where
    by : (ends : Bool) → (if ends then blank (but_last ts) else blank ts) ≡ blank (if ends then but_last ts else ts)
    by true = refl
    by false = refl

-- ---- tokens with their places

abbrev blank_placed : Placed → Placed
blank_placed (TopLevel token) = TopLevel (blank_token token)
blank_placed (Nested token) = Nested (blank_token token)

as_placed-blank : (at_top : Bool) (t : Token) → as_placed at_top (blank_token t) ≡ blank_placed (as_placed at_top t)
as_placed-blank true t = refl
as_placed-blank false t = refl

after-blank : (l : ℤ) (t : Token) → after l (blank_token t) ≡ after l t
after-blank l t = λ i. cond (test-blank raises (λ text. refl) t i) (suc_ℤ l) (cond (test-blank lowers (λ text. refl) t i) (pred_ℤ l) l)

placed_from-blank : (l : ℤ) (ts : List Token) → placed_from l (blank ts) ≡ map blank_placed (placed_from l ts)
placed_from-blank l [] = refl
placed_from-blank l (t ∷ ts) =
    (λ i. as_placed-blank (is_zero l) t i ∷ placed_from (after-blank l t i) (blank ts))
    ∙ ap (λ more. blank_placed (as_placed (is_zero l) t) ∷ more) (placed_from-blank (after l t) ts)

placed-blank : (ts : List Token) → fragments.placed (blank ts) ≡ map blank_placed (fragments.placed ts)
placed-blank ts = placed-is (blank ts) ∙ placed_from-blank (pos 0) ts ∙ ap (map blank_placed) (sym (placed-is ts))

-- ---- parts

top_level-blank : (test : Token → Bool) → Ignores test → (found : Placed) → at_top_level test (blank_placed found) ≡ at_top_level test found
top_level-blank test same (TopLevel token) = test-blank test same token
top_level-blank test same (Nested token) = refl

before-blank : (test : Token → Bool) → Ignores test → (ms : List Placed)
    → before_top_level test (map blank_placed ms) ≡ map blank_placed (before_top_level test ms)
before-blank test same [] = refl
before-blank test same (found ∷ ms) =
    (λ i. if top_level-blank test same found i then [] else blank_placed found ∷ before-blank test same ms i) ∙ by (at_top_level test found)
  where
    by : (is : Bool)
        → (if is then [] else blank_placed found ∷ map blank_placed (before_top_level test ms))
        ≡ map blank_placed (if is then [] else found ∷ before_top_level test ms)
    by true = refl
    by false = refl

abbrev blank_parts : Parts → Parts
blank_parts parts = record { lead = blank parts.lead; rest = map blank_clause parts.rest }

-- a clause word is no string token
word-blank : (t : Token) → is_clause_word t ≡ true → blank_token t ≡ t
word-blank (Word text) is = refl
word-blank (Str text) is = cc is
word-blank (Name text) is = refl
word-blank (Symbol byte) is = refl
word-blank Open is = refl

token_of-blank : (found : Placed) → token_of (blank_placed found) ≡ blank_token (token_of found)
token_of-blank (TopLevel token) = refl
token_of-blank (Nested token) = refl

divider-blank : (found : Placed) → at_top_level is_clause_word found ≡ true → blank_token (token_of found) ≡ token_of found
divider-blank (TopLevel token) is = word-blank token is
divider-blank (Nested token) is = cc is

front-blank : (is : Bool) (t : Token) (parts : Parts) → (is ≡ true → blank_token t ≡ t)
    → with_front is (blank_token t) (blank_parts parts) ≡ blank_parts (with_front is t parts)
front-blank true t parts unchanged = λ i. record { lead = []; rest = (unchanged refl i, blank parts.lead) ∷ map blank_clause parts.rest }
front-blank false t parts unchanged = refl

parts-blank : (ms : List Placed) → parts_at is_clause_word (map blank_placed ms) ≡ blank_parts (parts_at is_clause_word ms)
parts-blank [] = refl
parts-blank (found ∷ ms) =
    (λ i. with_front (top_level-blank is_clause_word (λ text. refl) found i) (token_of-blank found i) (parts-blank ms i))
    ∙ front-blank (at_top_level is_clause_word found) (token_of found) (parts_at is_clause_word ms) (divider-blank found)

-- ---- clauses

read-blank : (ts : List Token) → read (blank ts) ≡ map blank_clause (read ts)
unfolding read
read-blank ts =
    ap (λ all. (parts_at is_clause_word (before_top_level is_union (fragments.placed all))).rest) (without_semicolon-blank ts)
    ∙ ap (λ ms. (parts_at is_clause_word (before_top_level is_union ms)).rest) (placed-blank (without_semicolon ts))
    ∙ ap (λ ms. (parts_at is_clause_word ms).rest) (before-blank is_union (λ text. refl) (fragments.placed (without_semicolon ts)))
    ∙ ap (λ parts. parts.rest) (parts-blank (before_top_level is_union (fragments.placed (without_semicolon ts))))

blank-twice : (ts : List Token) → blank (blank ts) ≡ blank ts
blank-twice [] = refl
blank-twice (t ∷ ts) = λ i. token-twice t i ∷ blank-twice ts i

clauses-twice : (clauses : List Clause) → map blank_clause (map blank_clause clauses) ≡ map blank_clause clauses
clauses-twice [] = refl
clauses-twice (clause ∷ clauses) = λ i. (clause.0, blank-twice clause.1 i) ∷ clauses-twice clauses i

pub blank_clauses-ignore : IgnoresStrings blank_clauses
blank_clauses-ignore = ignores blank_clauses (λ ts. ap (map blank_clause) (read-blank ts) ∙ clauses-twice (read ts))
