-- The rules of tokens, and those of literals in which a backslash escapes, as readers.
use Prim.Native.Char.{code}
use Rattle.std.specs.Prelude.{◌≡◌, ◌==◌, ◌+◌, ◌-◌, ℕ, Bool, true, not, List, ◌∷◌, codes, if◌then◌else◌, nat_le}
use Rattle.std.specs.List.{list_all}
use Rattle.sql_parts.specs.Backslash.{has_backslash}
use Rattle.sql_parts.specs.Readers.{Reader, OpensLiteral, after}
use Rattle.sql_parts.specs.Tokens.{closed, is_one_of, is_word_byte}
use Rattle.sql_parts.specs.declared.delimiters.Quotes.TheVariants.{Single}
use Rattle.sql_parts.specs.declared.delimiters.Quotes.{Quotes}

-- States of the rules of tokens: 0 between two tokens, that of `w` in a word, that of a dash or a slash behind one that may begin a comment,
-- that of a line feed in a comment that ends there, 1 in one that `*/` ends, that of a star behind one in there, that of a delimiter inside
-- of a literal that it ends, and 256 more behind one that may end it.
abbrev pub in_block : ℕ
in_block = 1

-- the state behind a byte that begins anew
abbrev pub begun : ℕ → ℕ
begun byte =
    if is_one_of (codes "-/'\"`") byte then byte
    else (if byte == code "[" then code "]" else (if is_word_byte byte then code "w" else 0))

-- the reader that the rules of tokens are
abbrev pub token_reader : Reader
token_reader state byte =
    if is_one_of (codes "'\"`]") state then (if byte == state then 256 + state else state)
    else (if nat_le 256 state then (if byte == state - 256 then byte else begun byte)
    else (if state == code "w" then (if is_word_byte byte then state else begun byte)
    else (if state == code "-" then (if byte == code "-" then code "\n" else begun byte)
    else (if state == code "/" then (if byte == code "*" then in_block else begun byte)
    else (if state == code "\n" then (if byte == code "\n" then 0 else state)
    else (if state == in_block then (if byte == code "*" then code "*" else state)
    else (if state == code "*" then (if byte == code "/" then 0 else (if byte == code "*" then state else in_block))
    else begun byte)))))))

-- inside of a literal or in a comment
abbrev pub is_open_state : ℕ → Bool
is_open_state state = is_one_of (in_block ∷ codes "'\"`]\n*") state

-- a text is closed where this reader ends outside of literals and comments
abbrev pub ReadsClosed : Type 0
ReadsClosed = (text : List ℕ) → closed text ≡ not (is_open_state (after token_reader 0 text))

-- between two tokens it opens a literal at each delimiter, and every byte is plain to it
abbrev pub OpensEveryLiteral : Type 0
OpensEveryLiteral = (quotes : Quotes) → OpensLiteral token_reader (λ byte. true) quotes 0

-- ---- backslashes

-- A reader of literals in which a backslash escapes: that of a quote inside of a literal, that of a backslash behind one, and else 0.
abbrev pub backslash_reader : Reader
backslash_reader state byte =
    if state == code "'" then (if byte == code "\\" then byte else (if byte == code "'" then 0 else state))
    else (if state == code "\\" then code "'" else (if byte == code "'" then byte else 0))

-- a byte is no backslash
abbrev pub is_no_backslash : ℕ → Bool
is_no_backslash byte = not (byte == code "\\")

-- a text has no backslash where each byte is none
abbrev pub HasNoBackslash : Type 0
HasNoBackslash = (text : List ℕ) → list_all is_no_backslash text ≡ not (has_backslash text)

-- it opens a literal too, where a backslash isn't plain
abbrev pub OpensWithoutBackslashes : Type 0
OpensWithoutBackslashes = OpensLiteral backslash_reader is_no_backslash Single 0
