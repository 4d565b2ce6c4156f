-- How PostgreSQL reads a text, byte by byte, as a reader: what its lexer (scan.l, standard_conforming_strings on) is in behind each byte.
-- What is behind a token that it refuses means nothing. It is lost in more comments than 2 ^ 24 within each other, and behind a tag of
-- more than three bytes between dollars.
use Prim.Native.Char.{code}
use Rattle.std.specs.Prelude.{ℕ, ◌+◌, ◌-◌, ◌*◌, ◌/◌, ◌%◌, ◌==◌, ◌||◌, ◌&&◌, Bool, not, nat_le, nat_lt, if◌then◌else◌}
use Rattle.std.specs.Char.{is_ascii_digit}
use Rattle.sql_parts.specs.Readers.{Reader}
use Rattle.sql_parts.specs.Tokens.{is_word_byte}

-- ---- the states: outside of everything, in a word or number, behind `-` and `/`, in a comment of a line, in a name and behind its
-- quote, behind `$`, behind a letter that may begin a string, behind `U&`

abbrev pub outside : ℕ
outside = 0

abbrev pub word : ℕ
word = 1

abbrev pub number : ℕ
number = 2

abbrev pub minus : ℕ
minus = 3

abbrev pub slash : ℕ
slash = 4

abbrev pub line_comment : ℕ
line_comment = 5

abbrev pub name : ℕ
name = 6

abbrev pub name_quote : ℕ
name_quote = 7

abbrev pub dollar : ℕ
dollar = 8

abbrev pub letter_e : ℕ
letter_e = 9

abbrev pub letter_u : ℕ
letter_u = 10

abbrev pub u_and : ℕ
u_and = 11

abbrev pub letter_of_bits : ℕ
letter_of_bits = 12

abbrev pub lost : ℕ
lost = 15

-- In a string: its kind, and where in it. Behind its last quote and blanks with a line's end, a quote goes on with it.
abbrev pub string : ℕ → ℕ → ℕ
string kind place = 16 + 8 * kind + place

abbrev pub plain : ℕ
plain = 0

abbrev pub escapes : ℕ
escapes = 1

abbrev pub unicode : ℕ
unicode = 2

abbrev pub bits : ℕ
bits = 3

abbrev pub inside : ℕ
inside = 0

abbrev pub backslash : ℕ
backslash = 1

abbrev pub quote : ℕ
quote = 2

abbrev pub blanks : ℕ
blanks = 3

abbrev pub lines : ℕ
lines = 4

abbrev pub minus_behind : ℕ
minus_behind = 5

abbrev pub comment_behind : ℕ
comment_behind = 6

-- In what nests or has a tag. In a comment, behind `/` and behind `*` in it, with the number of comments round it; behind a dollar and so
-- much of a tag, in a string that this tag ends, and behind a dollar and so much of another tag in it. A tag is the number of its bytes.
abbrev pub nested : ℕ → ℕ → ℕ
nested place more = 48 + 8 * more + place

abbrev pub comment : ℕ
comment = 0

abbrev pub comment_slash : ℕ
comment_slash = 1

abbrev pub comment_star : ℕ
comment_star = 2

abbrev pub tag : ℕ
tag = 3

abbrev pub tagged : ℕ
tagged = 4

abbrev pub tagged_dollar : ℕ
tagged_dollar = 5

-- one more than the greatest number of comments, and of a tag
abbrev pub most : ℕ
most = 16777216

-- ---- the next state

-- what a byte begins
abbrev pub begun : ℕ → ℕ
begun byte =
    if byte == code "'" then string plain inside
    else if byte == code "\"" then name
    else if byte == code "-" then minus
    else if byte == code "/" then slash
    else if byte == code "$" then dollar
    else if byte == code "e" || byte == code "E" then letter_e
    else if byte == code "u" || byte == code "U" then letter_u
    else if byte == code "x" || byte == code "X" || byte == code "b" || byte == code "B" then letter_of_bits
    else if is_ascii_digit byte then number
    else if is_word_byte byte then word
    else outside

-- behind a byte of a word
abbrev pub in_word : ℕ → ℕ
in_word byte = if is_word_byte byte || byte == code "$" then word else begun byte

abbrev pub ends_line : ℕ → Bool
ends_line byte = byte == 10 || byte == 13

abbrev pub is_blank : ℕ → Bool
is_blank byte = byte == code " " || byte == 9 || byte == 12

-- outside of strings and of what nests
abbrev pub in_token : ℕ → ℕ → ℕ
in_token state byte =
    if state == outside then begun byte
    else if state == word then in_word byte
    else if state == number then (if is_word_byte byte then number else begun byte)
    else if state == minus then (if byte == code "-" then line_comment else begun byte)
    else if state == slash then (if byte == code "*" then nested comment 0 else begun byte)
    else if state == line_comment then (if ends_line byte then outside else line_comment)
    else if state == name then (if byte == code "\"" then name_quote else name)
    else if state == name_quote then (if byte == code "\"" then name else begun byte)
    else if state == dollar then
    (if byte == code "$" then nested tagged 0 else if is_ascii_digit byte then number else if is_word_byte byte then nested tag byte else begun byte)
    else if state == letter_e then (if byte == code "'" then string escapes inside else in_word byte)
    else if state == letter_u then (if byte == code "&" then u_and else in_word byte)
    else if state == u_and then (if byte == code "'" then string unicode inside else if byte == code "\"" then name else begun byte)
    else if state == letter_of_bits then (if byte == code "'" then string bits inside else in_word byte)
    else lost

-- behind a string's last quote and blanks, or blanks with a line's end
abbrev pub behind_string : ℕ → ℕ → ℕ → ℕ
behind_string kind place byte =
    if ends_line byte then string kind lines
    else if is_blank byte then string kind place
    else if byte == code "-" then string kind minus_behind
    else begun byte

-- in a string
abbrev pub in_string : ℕ → ℕ → ℕ → ℕ
in_string kind place byte =
    if place == inside then
    (if byte == code "'" then string kind quote
    else if (kind == escapes || kind == unicode) && byte == code "\\" then string kind backslash else string kind inside)
    else if place == backslash then (if kind == unicode && byte == code "'" then string kind quote else string kind inside)
    else if place == quote then (if not (kind == bits) && byte == code "'" then string kind inside else behind_string kind blanks byte)
    else if place == blanks then behind_string kind blanks byte
    else if place == lines then (if byte == code "'" then string kind inside else behind_string kind lines byte)
    else if place == minus_behind then (if byte == code "-" then string kind comment_behind else begun byte)
    else if place == comment_behind then (if ends_line byte then string kind lines else string kind comment_behind)
    else lost

-- in a comment
abbrev pub in_comment : ℕ → ℕ → ℕ → ℕ
in_comment place depth byte =
    if byte == code "*" then
    (if place == comment_slash then (if nat_lt depth most then nested comment (depth + 1) else lost) else nested comment_star depth)
    else if byte == code "/" then
    (if place == comment_star then (if depth == 0 then outside else nested comment (depth - 1)) else nested comment_slash depth)
    else nested comment depth

-- a tag of up to three bytes with one more
abbrev pub longer : ℕ → ℕ → ℕ
longer found byte = 256 * found + byte

-- behind a dollar and a tag: what isn't one is a dollar and a word
abbrev pub in_tag : ℕ → ℕ → ℕ
in_tag found byte =
    if byte == code "$" then nested tagged found
    else if is_word_byte byte then (if nat_lt found 65536 then nested tag (longer found byte) else lost)
    else if nat_lt found 256 then in_token (begun found) byte else begun byte

-- in a string between dollars
abbrev pub in_tagged : ℕ → ℕ → ℕ → ℕ
in_tagged ends found byte =
    if byte == code "$" then (if found == ends then outside else nested tagged_dollar ends)
    else if is_word_byte byte && nat_lt found 65536 then nested tagged_dollar (ends + most * longer found byte)
    else nested tagged ends

-- in what nests or has a tag
abbrev pub in_nested : ℕ → ℕ → ℕ → ℕ
in_nested place more byte =
    if nat_le place comment_star then in_comment place more byte
    else if place == tag then in_tag more byte
    else if place == tagged then (if byte == code "$" then nested tagged_dollar more else nested tagged more)
    else if place == tagged_dollar then in_tagged (more % most) (more / most) byte
    else lost

-- the state behind a byte
abbrev pub postgres : Reader
postgres state byte =
    if nat_lt state 16 then in_token state byte
    else if nat_lt state 48 then in_string ((state - 16) / 8) ((state - 16) % 8) byte
    else if nat_lt state 2251799813685296 then in_nested ((state - 48) % 8) ((state - 48) / 8) byte
    else lost
