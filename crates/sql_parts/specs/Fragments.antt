-- Fragments of SQL: their nesting depth, and which are balanced, operands, or dangling.
use Prim.Native.Char.{code}
use Rattle.std.specs.Prelude.{ℕ, zero, suc, ◌-◌, ◌==◌, ◌&&◌, ◌||◌, Bool, true, false, not, nat_lt, List, [], ◌∷◌, length, take, map, ℤ, pos, ◌-ℤ◌, int_le}
use Rattle.std.specs.Prelude.{if◌then◌else◌, codes, IsTrue}
use Rattle.std.specs.List.{count_by, list_all, list_any, zip}
use Rattle.std.specs.Ordering.{int_eq}
use Rattle.std.specs.Str.{str_eq_ignore_ascii_case}
use Rattle.sql_parts.specs.Error.{IsMemory}
use Rattle.sql_parts.specs.declared.error.SqlBuilderError.{SqlBuilderError}
use Rattle.sql_parts.specs.Tokens.{Token, Word, Symbol, begins_with, is_empty, is_open, is_semicolon, tokens}

-- a word that is this keyword, in capitals or not; a name or a text between quotes is no word
abbrev pub is_word : List ℕ → Token → Bool
is_word keyword (Word text) = str_eq_ignore_ascii_case text keyword
is_word keyword _ = false

-- a word that is one of these keywords
abbrev pub is_word_of : List (List ℕ) → Token → Bool
is_word_of keywords token = list_any (λ keyword. is_word keyword token) keywords

-- this sign
abbrev pub is_symbol : ℕ → Token → Bool
is_symbol sign (Symbol byte) = byte == sign
is_symbol sign _ = false

-- `(` and CASE raise the depth
abbrev pub raises : Token → Bool
raises token = is_symbol (code "(") token || is_word (codes "CASE") token

-- `)` and END lower it
abbrev pub lowers : Token → Bool
lowers token = is_symbol (code ")") token || is_word (codes "END") token

-- one for a token that passes a test, and else none
abbrev pub weight : (Token → Bool) → Token → ℕ
weight test token = if test token then 1 else 0

-- The nesting depth at a place, which is just before the token there: how many of the tokens before it raise it, less how
-- many of them lower it.
abbrev pub depth_at : List Token → ℕ → ℤ
depth_at ts place = pos (count_by raises (take place ts)) -ℤ pos (count_by lowers (take place ts))

-- the places of the tokens that pass a test
abbrev pub places : (Token → Bool) → List Token → List ℕ
places test [] = []
places test (token ∷ ts) = let later = map suc (places test ts) in if test token then 0 ∷ later else later

-- every token
abbrev pub any_token : Token → Bool
any_token token = true

-- the token at a place is there, and passes a test
abbrev pub is_at : (Token → Bool) → List Token → ℕ → Bool
is_at test [] place = false
is_at test (token ∷ ts) zero = test token
is_at test (token ∷ ts) (suc place) = is_at test ts place

-- the token before a place is there, and passes a test
abbrev pub is_before : (Token → Bool) → List Token → ℕ → Bool
is_before test ts zero = false
is_before test ts (suc place) = is_at test ts place

-- the place is at the top level: its depth is 0
abbrev pub is_top_level : List Token → ℕ → Bool
is_top_level ts place = int_eq (depth_at ts place) (pos 0)

-- a token at depth 0 passes a test
abbrev pub has_top_level : (Token → Bool) → List Token → Bool
has_top_level test ts = list_any (is_top_level ts) (places test ts)

-- A token at depth 0, or at another.
pub data Placed : Type 0 where
  TopLevel : Token → Placed
  Nested : Token → Placed

-- a token, from whether its place is at the top level
abbrev pub as_placed : Bool → Token → Placed
as_placed true token = TopLevel token
as_placed false token = Nested token

-- each token with its place
abbrev pub placed : List Token → List Placed
placed ts = map (λ found. as_placed found.0 found.1) (zip (map (is_top_level ts) (places any_token ts)) ts)

-- the token without its place
abbrev pub token_of : Placed → Token
token_of (TopLevel token) = token
token_of (Nested token) = token

-- a token at depth 0 passes a test
abbrev pub at_top_level : (Token → Bool) → Placed → Bool
at_top_level test (TopLevel token) = test token
at_top_level test (Nested token) = false

-- the words that begin a clause of a statement
abbrev pub clause_words : List (List ℕ)
clause_words =
    codes "SELECT" ∷ codes "FROM" ∷ codes "WHERE" ∷ codes "GROUP" ∷ codes "HAVING" ∷ codes "UNION" ∷ codes "ORDER" ∷ codes "LIMIT"
    ∷ codes "OFFSET" ∷ codes "RETURNING" ∷ codes "INSERT" ∷ codes "VALUES" ∷ codes "UPDATE" ∷ codes "SET" ∷ codes "DELETE" ∷ []

-- a word that begins a clause
abbrev pub is_clause_word : Token → Bool
is_clause_word token = is_word_of clause_words token

-- a text has a top-level clause keyword
abbrev pub has_clause_word : List ℕ → Bool
has_clause_word text = has_top_level is_clause_word (tokens text)

-- the further words that begin a clause in some databases
abbrev pub dialect_words : List (List ℕ)
dialect_words =
    codes "INTO" ∷ codes "INTERSECT" ∷ codes "EXCEPT" ∷ codes "MINUS" ∷ codes "TABLE" ∷ codes "FETCH" ∷ codes "FOR" ∷ codes "WITH"
    ∷ codes "WINDOW" ∷ []

-- a word that begins a clause in some databases
abbrev pub is_dialect_word : Token → Bool
is_dialect_word token = is_word_of dialect_words token

-- a word that begins a clause, in every database or in some
abbrev pub starts_clause : Token → Bool
starts_clause token = is_clause_word token || is_dialect_word token

-- By `(` and `)` alone, behind so many that are open: each has its match, and each word that begins a clause is between two of them.
abbrev pub encloses_clauses : ℕ → List Token → Bool
encloses_clauses level [] = level == 0
encloses_clauses level (token ∷ ts) =
    if is_symbol (code "(") token then encloses_clauses (suc level) ts
    else if is_symbol (code ")") token then nat_lt 0 level && encloses_clauses (level - 1) ts
    else not (level == 0 && starts_clause token) && encloses_clauses level ts

-- a text has a top-level word that begins a clause in some databases
abbrev pub has_dialect_word : List ℕ → Bool
has_dialect_word text = has_top_level is_dialect_word (tokens text)

-- neither a quote or a comment without an end, nor a `;`
abbrev pub is_whole : Token → Bool
is_whole token = not (is_open token) && not (is_semicolon token)

-- the depth is at least 0 after each token, and 0 after the last
abbrev pub brackets_match : List Token → Bool
brackets_match ts =
    list_all (λ place. int_le (pos 0) (depth_at ts (suc place))) (places any_token ts) && int_eq (depth_at ts (length ts)) (pos 0)

-- there is a token, none is open or a `;`, and the brackets match
abbrev pub is_balanced : List Token → Bool
is_balanced ts = not (is_empty ts) && list_all is_whole ts && brackets_match ts

-- a text whose tokens are balanced
abbrev pub balanced : List ℕ → Bool
balanced text = is_balanced (tokens text)

-- the words that join conditions, or the ends of a range
abbrev pub joining_words : List (List ℕ)
joining_words = codes "OR" ∷ codes "AND" ∷ codes "BETWEEN" ∷ []

-- a word that joins
abbrev pub is_joining : Token → Bool
is_joining token = is_word_of joining_words token

-- balanced, without a top-level OR, AND or BETWEEN, and not beginning with NOT
abbrev pub is_operand : List Token → Bool
is_operand ts = is_balanced ts && not (has_top_level is_joining ts) && not (begins_with (is_word (codes "NOT")) ts)

-- a text whose tokens are an operand
abbrev pub operand : List ℕ → Bool
operand text = is_operand (tokens text)

-- an operand may begin behind it: `(`, `,`, CASE, WHEN, THEN, ELSE, OR, AND, NOT, BETWEEN
abbrev pub is_opening : Token → Bool
is_opening token =
    is_symbol (code "(") token || is_symbol (code ",") token
    || is_word_of (codes "CASE" ∷ codes "WHEN" ∷ codes "THEN" ∷ codes "ELSE" ∷ codes "OR" ∷ codes "AND" ∷ codes "NOT" ∷ codes "BETWEEN" ∷ []) token

-- an operand may end before it: `)`, `,`, END, WHEN, THEN, ELSE, OR, AND
abbrev pub is_closing : Token → Bool
is_closing token =
    is_symbol (code ")") token || is_symbol (code ",") token
    || is_word_of (codes "END" ∷ codes "WHEN" ∷ codes "THEN" ∷ codes "ELSE" ∷ codes "OR" ∷ codes "AND" ∷ []) token

-- OR and AND, which join an operand before them
abbrev pub needs_left : Token → Bool
needs_left token = is_word_of (codes "OR" ∷ codes "AND" ∷ []) token

-- OR, AND and NOT, which take an operand behind them
abbrev pub needs_right : Token → Bool
needs_right token = is_word_of (codes "OR" ∷ codes "AND" ∷ codes "NOT" ∷ []) token

-- no OR or AND is first, or follows a token that opens
abbrev pub has_left_sides : List Token → Bool
has_left_sides ts = list_all (is_before (λ token. not (is_opening token)) ts) (places needs_left ts)

-- no OR, AND or NOT is last, or precedes a token that closes
abbrev pub has_right_sides : List Token → Bool
has_right_sides ts = list_all (λ place. is_at (λ token. not (is_closing token)) ts (suc place)) (places needs_right ts)

-- a place is between two others
abbrev pub is_between : ℕ → ℕ → ℕ → Bool
is_between start end place = nat_lt start place && nat_lt place end

-- The AND at one place is that of the BETWEEN at another before it: it has the same depth, the depth never falls under
-- theirs in between, and no AND, OR or BETWEEN in between has theirs.
abbrev pub is_and_of : List Token → ℕ → ℕ → Bool
is_and_of ts between and =
    nat_lt between and
    && int_eq (depth_at ts and) (depth_at ts between)
    && list_all (λ place. not (is_between between and place) || int_le (depth_at ts between) (depth_at ts place)) (places any_token ts)
    && not (list_any (λ place. is_between between and place && int_eq (depth_at ts place) (depth_at ts between)) (places is_joining ts))

-- each BETWEEN has its AND
abbrev pub has_ands : List Token → Bool
has_ands ts =
    list_all (λ between. list_any (is_and_of ts between) (places (is_word (codes "AND")) ts)) (places (is_word (codes "BETWEEN")) ts)

-- an OR, AND or NOT is where it may not be, or a BETWEEN has no AND
abbrev pub is_dangling : List Token → Bool
is_dangling ts = not (has_left_sides ts && has_right_sides ts && has_ands ts)

-- how a test fails that stores a truth value for each depth: because memory runs out, and only where a token raises the depth
abbrev pub IsMemoryForNesting : List ℕ → SqlBuilderError → Type 0
IsMemoryForNesting text error = IsMemory error × IsTrue (list_any raises (tokens text))

-- a text whose tokens dangle
abbrev pub dangling : List ℕ → Bool
dangling text = is_dangling (tokens text)
