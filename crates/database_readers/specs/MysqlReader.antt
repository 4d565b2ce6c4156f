-- How MySQL and MariaDB read a text, byte by byte, as a reader: what their lexer (sql_lex.cc) is in behind each byte. A backslash escapes by the
-- default sql_mode, and not by NO_BACKSLASH_ESCAPES. What is behind a token that they refuse means nothing, and a zero byte isn't read. The
-- reader is lost behind `/*!`, `/*M!`, `/*+`, and a `$` that begins a word: what is read there differs between versions.
use Prim.Native.Char.{code}
use Rattle.std.specs.Prelude.{ℕ, ◌+◌, ◌-◌, ◌==◌, ◌||◌, ◌&&◌, Bool, codes, not, nat_le, if◌then◌else◌}
use Rattle.sql_parts.specs.Readers.{Reader}
use Rattle.sql_parts.specs.Tokens.{is_one_of, is_word_byte}

-- ---- the states: outside of everything, in a word or number, in bits, in a comment, behind what may begin these, and lost

abbrev pub outside : ℕ
outside = 0

abbrev pub word : ℕ
word = 119

abbrev pub letter : ℕ
letter = 120

abbrev pub bits : ℕ
bits = 98

abbrev pub dash : ℕ
dash = 45

abbrev pub dashes : ℕ
dashes = 301

abbrev pub line : ℕ
line = 10

abbrev pub slash : ℕ
slash = 47

abbrev pub slash_star : ℕ
slash_star = 303

abbrev pub letter_m : ℕ
letter_m = 77

abbrev pub block : ℕ
block = 1

abbrev pub star : ℕ
star = 42

abbrev pub lost : ℕ
lost = 33

-- In a literal the state is its delimiter. Behind this, or behind a backslash in there, one of these is added to it.
abbrev pub behind_delimiter : ℕ
behind_delimiter = 256

abbrev pub behind_backslash : ℕ
behind_backslash = 512

-- ---- the next state

-- what a byte begins
abbrev pub begun : ℕ → ℕ
begun byte =
    if is_one_of (codes "'\"`") byte then byte
    else if byte == code "-" then dash
    else if byte == code "/" then slash
    else if byte == code "#" then line
    else if byte == code "$" then lost
    else if is_one_of (codes "xXbB") byte then letter
    else if is_word_byte byte || is_one_of (codes ".@") byte then word
    else outside

-- in a word, where a letter may begin bits, and in bits
abbrev pub in_word : ℕ → ℕ → ℕ
in_word state byte =
    if state == bits then (if byte == code "'" then outside else bits)
    else if state == letter && byte == code "'" then bits
    else if is_word_byte byte || byte == code "$" then word
    else begun byte

-- in a literal, and behind a delimiter or a backslash in there
abbrev pub in_literal : Bool → ℕ → ℕ → ℕ
in_literal escapes state byte =
    if nat_le behind_backslash state then state - behind_backslash
    else if nat_le behind_delimiter state then (if state == behind_delimiter + byte then byte else begun byte)
    else if byte == state then behind_delimiter + state
    else if escapes && byte == code "\\" && not (state == code "`") then behind_backslash + state
    else state

-- in a comment of a line, and behind what may begin one: behind two dashes a blank or a control character does
abbrev pub in_line : ℕ → ℕ → ℕ
in_line state byte =
    if state == dash then (if byte == code "-" then dashes else begun byte)
    else if byte == code "\n" then outside
    else if state == line || nat_le byte 32 || byte == 127 then line
    else if byte == code "-" then dashes
    else begun byte

-- in a comment that `*/` ends, and behind what may begin one
abbrev pub in_comment : ℕ → ℕ → ℕ
in_comment state byte =
    if state == slash && byte == code "*" then slash_star
    else if state == slash then begun byte
    else if state == slash_star && byte == code "M" then letter_m
    else if state == slash_star && (byte == code "!" || byte == code "+") then lost
    else if state == letter_m && byte == code "!" then lost
    else if state == star && byte == code "/" then outside
    else if byte == code "*" then star
    else block

-- the state behind a byte
abbrev pub mysql : Bool → Reader
mysql escapes state byte =
    if state == outside then begun byte
    else if state == lost then lost
    else if state == word || state == letter || state == bits then in_word state byte
    else if state == dash || state == dashes || state == line then in_line state byte
    else if state == slash || state == slash_star || state == letter_m || state == block || state == star then in_comment state byte
    else in_literal escapes state byte
