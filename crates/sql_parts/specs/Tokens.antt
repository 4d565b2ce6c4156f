-- The tokens of an SQL text: it is read from left to right, each time by the first rule that fits.
use Prim.Native.Char.{code}
use Rattle.std.specs.Prelude.{ℕ, zero, suc, ◌==◌, ◌||◌, Bool, true, false, not, nat_eq, nat_le, List, [], ◌∷◌, ◌++◌, length, take, drop, if◌then◌else◌, codes}
use Rattle.std.specs.Prelude.{Option, Some, None, option_map}
use Rattle.std.specs.Char.{is_ascii_alphanumeric}
use Rattle.std.specs.List.{list_any, prefix_len, starts_with}
use Rattle.sql_parts.specs.declared.delimiters.Quotes.{Quotes}
use Rattle.sql_parts.specs.declared.delimiters.Quotes.TheVariants.{Single, Back, Square, Double}

-- A word, a text or a name between quotes as it parses back, any other byte, or a quote or a comment that has no end.
pub data Token : Type 0 where
  Word : List ℕ → Token
  Str : List ℕ → Token
  Name : List ℕ → Token
  Symbol : ℕ → Token
  Open : Token

-- one of these bytes
abbrev pub is_one_of : List ℕ → ℕ → Bool
is_one_of bytes byte = list_any (λ other. byte == other) bytes

-- a space, TAB, line feed or carriage return
abbrev pub is_blank : ℕ → Bool
is_blank byte = is_one_of (codes " \t\n\r") byte

-- an ASCII letter or digit, `_`, or a byte of a character that isn't ASCII
abbrev pub is_word_byte : ℕ → Bool
is_word_byte byte = is_ascii_alphanumeric byte || byte == code "_" || nat_le 128 byte

-- how many bytes reach to the end of the first such ending
abbrev pub reach : List ℕ → List ℕ → Option ℕ
reach ending [] = None
reach ending (byte ∷ behind) =
    if starts_with nat_eq (byte ∷ behind) ending then Some (length ending) else option_map suc (reach ending behind)

-- Behind a quote: the text up to the delimiter that closes it, and how many bytes reach to the end of that delimiter. The delimiter
-- twice stands for itself once.
abbrev pub inside : ℕ → List ℕ → Option (List ℕ × ℕ)
inside delimiter [] = None
inside delimiter (byte ∷ []) = if byte == delimiter then Some ([], 1) else None
inside delimiter (byte ∷ next ∷ behind) =
    if byte == delimiter then (if next == delimiter then option_map (λ found. (delimiter ∷ found.0, suc (suc found.1))) (inside delimiter behind) else Some
    ([], 1))
    else option_map (λ found. (byte ∷ found.0, suc found.1)) (inside delimiter (next ∷ behind))

-- a comment up to its end, and else up to the end of the text
abbrev pub comment : List ℕ → Option ℕ → List Token × ℕ
comment behind (Some bytes) = ([], bytes)
comment behind None = (Open ∷ [], length behind)

-- a quoted text up to its end, and else up to the end of the text
abbrev pub unquoted : (List ℕ → Token) → List ℕ → Option (List ℕ × ℕ) → List Token × ℕ
unquoted token behind (Some found) = (token found.0 ∷ [], found.1)
unquoted token behind None = (Open ∷ [], length behind)

-- the longest run of word bytes
abbrev pub word : ℕ → List ℕ → List Token × ℕ
word byte behind = let more = prefix_len is_word_byte behind in (Word (byte ∷ take more behind) ∷ [], more)

-- The first rule that fits a byte and the text behind it: its token, or none for a blank or a comment, and how many of
-- the bytes behind belong to it.
abbrev pub first : ℕ → List ℕ → List Token × ℕ
first byte behind =
    if is_blank byte then ([], 0)
    else (if starts_with nat_eq (byte ∷ behind) (codes "--") then comment behind (reach (codes "\n") behind)
    else (if starts_with nat_eq (byte ∷ behind) (codes "/*") then comment behind (option_map suc (reach (codes "*/") (drop 1 behind)))
    else (if byte == code "'" then unquoted Str behind (inside (code "'") behind)
    else (if byte == code "\"" then unquoted Name behind (inside (code "\"") behind)
    else (if byte == code "`" then unquoted Name behind (inside (code "`") behind)
    else (if byte == code "[" then unquoted Name behind (inside (code "]") behind)
    else (if is_word_byte byte then word byte behind
    else (Symbol byte ∷ [], 0))))))))

-- the tokens of a text without its first `skipped` bytes
abbrev pub tokens_from : ℕ → List ℕ → List Token
tokens_from skipped [] = []
tokens_from zero (byte ∷ behind) = let found = first byte behind in found.0 ++ tokens_from found.1 behind
tokens_from (suc skipped) (byte ∷ behind) = tokens_from skipped behind

-- The tokens of a text.
abbrev pub tokens : List ℕ → List Token
tokens text = tokens_from 0 text

-- a quote or a comment without an end
abbrev pub is_open : Token → Bool
is_open Open = true
is_open _ = false

-- the token of a text between these quotes
abbrev pub quoted_token : Quotes → List ℕ → Token
quoted_token Single text = Str text
quoted_token Back text = Name text
quoted_token Square text = Name text
quoted_token Double text = Name text

-- no quote and no comment lacks its end
abbrev pub closed : List ℕ → Bool
closed text = not (list_any is_open (tokens text))

-- a `;` outside of quotes
abbrev pub is_semicolon : Token → Bool
is_semicolon (Symbol byte) = byte == code ";"
is_semicolon _ = false

-- a `;` is among the tokens
abbrev pub has_semicolon : List ℕ → Bool
has_semicolon text = list_any is_semicolon (tokens text)

-- a blank, `(`, `)`, `,`, `;`, `=`, `<` or `>`
abbrev pub is_separator : ℕ → Bool
is_separator byte = is_one_of (codes " \t\n\r(),;=<>") byte

-- a separator or a dot
abbrev pub is_edge : ℕ → Bool
is_edge byte = is_one_of (codes " \t\n\r(),;=<>.") byte

-- the first element is there, and passes a test
abbrev pub begins_with : {X : Type 0} → (X → Bool) → List X → Bool
begins_with test [] = false
begins_with test (x ∷ xs) = test x

-- the last element is there, and passes a test
abbrev pub ends_with : {X : Type 0} → (X → Bool) → List X → Bool
ends_with test [] = false
ends_with test (x ∷ []) = test x
ends_with test (x ∷ next ∷ xs) = ends_with test (next ∷ xs)

-- there is no element
abbrev pub is_empty : {X : Type 0} → List X → Bool
is_empty [] = true
is_empty (x ∷ xs) = false

-- The second text may follow the first: one of them is empty, or an edge is beside the seam.
abbrev pub clean : List ℕ → List ℕ → Bool
clean one other = is_empty one || is_empty other || ends_with is_edge one || begins_with is_edge other
