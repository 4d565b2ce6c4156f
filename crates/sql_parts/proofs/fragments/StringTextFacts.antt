-- No test of tokens looks at the text of a string token.
use Rattle.sql_parts.proofs.Imports.{◌≡◌, refl, sym, ◌∙◌, ap, ℕ, zero, suc, ◌+◌, Bool, true, false, not, ◌&&◌, ◌||◌, List, [], ◌∷◌, ◌++◌, map, take, pos, ◌-ℤ◌}
use Rattle.sql_parts.proofs.Imports.{codes, count_by, list_all, list_any, int_eq, int_le, nat_lt, if◌then◌else◌, sum_by-cons, length-map, take-map, Name}
use Rattle.sql_parts.specs.{BlankSomewhere, IgnoresStrings, are_strings, blank, blank_at, blank_token, nowhere, outline, any_token, has_ands, has_left_sides}
use Rattle.sql_parts.specs.{has_top_level, has_right_sides, is_at, is_balanced, is_before, is_between, is_closing, is_dangling, is_joining, brackets_match}
use Rattle.sql_parts.specs.{is_opening, is_operand, is_whole, is_word, depth_at, lowers, needs_left, needs_right, places, raises, weight, Token, Word, Str}
use Rattle.sql_parts.specs.{Symbol, Open, begins_with, closed, ends_with, is_empty, is_open, tokens}

-- a test that says the same of a string token whatever its text is
abbrev pub Ignores : (Token → Bool) → Type 0
Ignores test = (text : List ℕ) → test (Str []) ≡ test (Str text)

pub test-blank : (test : Token → Bool) → Ignores test → (t : Token) → test (blank_token t) ≡ test t
test-blank test same (Word text) = refl
test-blank test same (Str text) = same text
test-blank test same (Name text) = refl
test-blank test same (Symbol byte) = refl
test-blank test same Open = refl

-- ---- tests of the tokens of a list

module _ (test : Token → Bool) (same : Ignores test) where
  pub places-blank : (ts : List Token) → places test (blank ts) ≡ places test ts
  places-blank [] = refl
  places-blank (t ∷ ts) = λ i. if test-blank test same t i then 0 ∷ map suc (places-blank ts i) else map suc (places-blank ts i)

  pub all-blank : (ts : List Token) → list_all test (blank ts) ≡ list_all test ts
  all-blank [] = refl
  all-blank (t ∷ ts) = λ i. test-blank test same t i && all-blank ts i

  pub any-blank : (ts : List Token) → list_any test (blank ts) ≡ list_any test ts
  any-blank [] = refl
  any-blank (t ∷ ts) = λ i. test-blank test same t i || any-blank ts i

  pub begins-blank : (ts : List Token) → begins_with test (blank ts) ≡ begins_with test ts
  begins-blank [] = refl
  begins-blank (t ∷ ts) = test-blank test same t

  pub ends-blank : (ts : List Token) → ends_with test (blank ts) ≡ ends_with test ts
  ends-blank [] = refl
  ends-blank (t ∷ []) = test-blank test same t
  ends-blank (t ∷ next ∷ ts) = ends-blank (next ∷ ts)

  pub count-blank : (ts : List Token) → count_by test (blank ts) ≡ count_by test ts
  count-blank [] = refl
  count-blank (t ∷ ts) =
      sum_by-cons (weight test) (blank_token t) (blank ts) ∙ (λ i. (if test-blank test same t i then 1 else 0) + count-blank ts i)
      ∙ sym (sum_by-cons (weight test) t ts)

  taken-blank : (ts : List Token) (place : ℕ) → count_by test (take place (blank ts)) ≡ count_by test (take place ts)
  taken-blank ts place = ap (count_by test) (take-map blank_token place ts) ∙ count-blank (take place ts)

  at-blank : (ts : List Token) (place : ℕ) → is_at test (blank ts) place ≡ is_at test ts place
  at-blank [] place = refl
  at-blank (t ∷ ts) zero = test-blank test same t
  at-blank (t ∷ ts) (suc place) = at-blank ts place

  before-blank : (ts : List Token) (place : ℕ) → is_before test (blank ts) place ≡ is_before test ts place
  before-blank ts zero = refl
  before-blank ts (suc place) = at-blank ts place

pub empty-blank : (ts : List Token) → is_empty (blank ts) ≡ is_empty ts
empty-blank [] = refl
empty-blank (t ∷ ts) = refl

-- ---- depths

pub depth_at-blank : (ts : List Token) → depth_at (blank ts) ≡ depth_at ts
depth_at-blank ts = λ i place. pos (taken-blank raises (λ text. refl) ts place i) -ℤ pos (taken-blank lowers (λ text. refl) ts place i)

pub has_top_level-blank : (test : Token → Bool) → Ignores test → (ts : List Token) → has_top_level test (blank ts) ≡ has_top_level test ts
has_top_level-blank test same ts = λ i. list_any (λ place. int_eq (depth_at-blank ts i place) (pos 0)) (places-blank test same ts i)

every : (ts : List Token) → places any_token (blank ts) ≡ places any_token ts
every ts = places-blank any_token (λ text. refl) ts

brackets_match-blank : (ts : List Token) → brackets_match (blank ts) ≡ brackets_match ts
brackets_match-blank ts =
    λ i. list_all (λ place. int_le (pos 0) (depth_at-blank ts i (suc place))) (every ts i) && int_eq (depth_at-blank ts i (length-map ts blank_token i)) (pos 0)

-- ---- what is asked of fragments

pub is_balanced-blank : (ts : List Token) → is_balanced (blank ts) ≡ is_balanced ts
is_balanced-blank ts = λ i. not (empty-blank ts i) && all-blank is_whole (λ text. refl) ts i && brackets_match-blank ts i

pub is_operand-blank : (ts : List Token) → is_operand (blank ts) ≡ is_operand ts
is_operand-blank ts =
    λ i. is_balanced-blank ts i && not (has_top_level-blank is_joining (λ text. refl) ts i) && not (begins-blank (is_word (codes "NOT")) (λ text. refl) ts i)

left_sides-blank : (ts : List Token) → has_left_sides (blank ts) ≡ has_left_sides ts
left_sides-blank ts =
    λ i. list_all (λ place. before-blank (λ token. not (is_opening token)) (λ text. refl) ts place i) (places-blank needs_left (λ text. refl) ts i)

right_sides-blank : (ts : List Token) → has_right_sides (blank ts) ≡ has_right_sides ts
right_sides-blank ts =
    λ i. list_all (λ place. at-blank (λ token. not (is_closing token)) (λ text. refl) ts (suc place) i) (places-blank needs_right (λ text. refl) ts i)

ands-blank : (ts : List Token) → has_ands (blank ts) ≡ has_ands ts
ands-blank ts =
    λ i. list_all
    (λ between. list_any
    (λ and.
    nat_lt between and
    && int_eq (depth_at-blank ts i and) (depth_at-blank ts i between)
    && list_all (λ place. not (is_between between and place) || int_le (depth_at-blank ts i between) (depth_at-blank ts i place)) (every ts i)
    && not (list_any (λ place. is_between between and place && int_eq (depth_at-blank ts i place) (depth_at-blank ts i between))
    (places-blank is_joining (λ text. refl) ts i)))
    (places-blank (is_word (codes "AND")) (λ text. refl) ts i))
    (places-blank (is_word (codes "BETWEEN")) (λ text. refl) ts i)

pub is_dangling-blank : (ts : List Token) → is_dangling (blank ts) ≡ is_dangling ts
is_dangling-blank ts = λ i. not (left_sides-blank ts i && right_sides-blank ts i && ands-blank ts i)

-- what blanks leave as it is
pub ignores : {X : Type 0} (answer : List Token → X) → ((ts : List Token) → answer (blank ts) ≡ answer ts) → IgnoresStrings answer
ignores answer kept one other same = sym (kept one) ∙ ap answer same ∙ kept other

-- ---- blanks at some places

pub token-twice : (t : Token) → blank_token (blank_token t) ≡ blank_token t
token-twice (Word text) = refl
token-twice (Str text) = refl
token-twice (Name text) = refl
token-twice (Symbol byte) = refl
token-twice Open = refl

all-places : (places : List Bool) (ts : List Token) → blank (blank_at places ts) ≡ blank ts
all-places [] ts = refl
all-places (true ∷ places) [] = refl
all-places (true ∷ places) (t ∷ ts) = λ i. token-twice t i ∷ all-places places ts i
all-places (false ∷ places) [] = refl
all-places (false ∷ places) (t ∷ ts) = ap (λ more. blank_token t ∷ more) (all-places places ts)

pub somewhere : BlankSomewhere
somewhere places one other same = sym (all-places places one) ∙ ap blank same ∙ all-places places other

-- tokens at none of the places, before others
pub nowhere-first : (ts : List Token) (places : List Bool) (more : List Token) → blank_at (nowhere ts ++ places) (ts ++ more) ≡ ts ++ blank_at places more
nowhere-first [] places more = refl
nowhere-first (t ∷ ts) places more = ap (λ rest. t ∷ rest) (nowhere-first ts places more)

pub strings-first : (ts : List Token) (places : List Bool) (more : List Token) → are_strings (nowhere ts ++ places) (ts ++ more) ≡ are_strings places more
strings-first [] places more = refl
strings-first (t ∷ ts) places more = strings-first ts places more

-- a text is closed where one is that is the same but for texts of strings
pub closed-alike : (one other : List ℕ) → outline one ≡ outline other → closed one ≡ true → closed other ≡ true
closed-alike one other same is =
    ap not (sym (any-blank is_open (λ t. refl) (tokens other)) ∙ ap (list_any is_open) (sym same) ∙ any-blank is_open (λ t. refl) (tokens one)) ∙ is
