-- How SQLite reads a text, byte by byte, as a reader: what its lexer (tokenize.c) is in behind each byte. What is behind a token that it
-- refuses means nothing, and a zero byte, which ends a text, isn't read.
use Prim.Native.Char.{code}
use Rattle.std.specs.Prelude.{ℕ, ◌==◌, ◌||◌, ◌&&◌, Bool, nat_le, if◌then◌else◌}
use Rattle.std.specs.Char.{is_ascii_digit, is_ascii_hexdigit}
use Rattle.sql_parts.specs.Readers.{Reader}
use Rattle.sql_parts.specs.Tokens.{is_word_byte}

-- ---- the states: outside of everything, in a word or number, in a comment, between quotes, in a variable, in U+FEFF

abbrev pub outside : ℕ
outside = 0

abbrev pub word : ℕ
word = 1

abbrev pub number : ℕ
number = 2

abbrev pub hexadecimal : ℕ
hexadecimal = 3

abbrev pub letter_x : ℕ
letter_x = 4

abbrev pub blob : ℕ
blob = 5

abbrev pub minus : ℕ
minus = 6

abbrev pub line_comment : ℕ
line_comment = 7

abbrev pub slash : ℕ
slash = 8

abbrev pub comment : ℕ
comment = 9

abbrev pub comment_star : ℕ
comment_star = 10

abbrev pub text : ℕ
text = 11

abbrev pub text_quote : ℕ
text_quote = 12

abbrev pub double_quoted : ℕ
double_quoted = 13

abbrev pub double_quote : ℕ
double_quote = 14

abbrev pub back_quoted : ℕ
back_quoted = 15

abbrev pub back_quote : ℕ
back_quote = 16

abbrev pub bracketed : ℕ
bracketed = 17

abbrev pub variable : ℕ
variable = 18

abbrev pub variable_name : ℕ
variable_name = 19

abbrev pub variable_colon : ℕ
variable_colon = 20

abbrev pub name_colon : ℕ
name_colon = 21

abbrev pub arguments : ℕ
arguments = 22

abbrev pub parameter : ℕ
parameter = 23

abbrev pub mark : ℕ
mark = 24

abbrev pub mark_end : ℕ
mark_end = 25

-- ---- the next state

-- a byte goes on with a word
abbrev pub continues : ℕ → Bool
continues byte = is_word_byte byte || byte == code "$"

-- what a byte begins
abbrev pub begun : ℕ → ℕ
begun byte =
    if byte == code "'" then text
    else if byte == code "\"" then double_quoted
    else if byte == code "`" then back_quoted
    else if byte == code "[" then bracketed
    else if byte == code "-" then minus
    else if byte == code "/" then slash
    else if byte == code "x" then letter_x
    else if byte == code "X" then letter_x
    else if byte == code "@" then variable
    else if byte == code ":" then variable
    else if byte == code "#" then variable
    else if byte == code "$" then variable
    else if byte == code "?" then parameter
    else if is_ascii_digit byte then number
    else if byte == 239 then mark
    else if is_word_byte byte then word
    else outside

-- behind a byte of a word
abbrev pub in_word : ℕ → ℕ
in_word byte = if continues byte then word else begun byte

-- behind what begins a variable
abbrev pub in_variable : ℕ → ℕ
in_variable byte = if continues byte then variable_name else if byte == code ":" then variable_colon else begun byte

-- outside of quotes and variables, in a blob or in a comment
abbrev pub outside_quotes : ℕ → ℕ → ℕ
outside_quotes state byte =
    if state == word then in_word byte
    else if state == number then (if is_ascii_digit byte then number else if byte == code "x" || byte == code "X" then hexadecimal else in_word byte)
    else if state == hexadecimal then (if is_ascii_hexdigit byte then hexadecimal else begun byte)
    else if state == letter_x then (if byte == code "'" then blob else in_word byte)
    else if state == blob then (if byte == code "'" then outside else blob)
    else if state == minus then (if byte == code "-" then line_comment else begun byte)
    else if state == line_comment then (if byte == 10 then outside else line_comment)
    else if state == slash then (if byte == code "*" then comment else begun byte)
    else if state == comment then (if byte == code "*" then comment_star else comment)
    else if state == comment_star then (if byte == code "*" then comment_star else if byte == code "/" then outside else comment)
    else begun byte

-- between quotes
abbrev pub in_quotes : ℕ → ℕ → ℕ
in_quotes state byte =
    if state == text then (if byte == code "'" then text_quote else text)
    else if state == text_quote then (if byte == code "'" then text else begun byte)
    else if state == double_quoted then (if byte == code "\"" then double_quote else double_quoted)
    else if state == double_quote then (if byte == code "\"" then double_quoted else begun byte)
    else if state == back_quoted then (if byte == code "`" then back_quote else back_quoted)
    else if state == back_quote then (if byte == code "`" then back_quoted else begun byte)
    else if state == bracketed then (if byte == code "]" then outside else bracketed)
    else begun byte

-- in a variable or parameter
abbrev pub in_parameter : ℕ → ℕ → ℕ
in_parameter state byte =
    if state == variable then in_variable byte
    else if state == variable_name then
    (if continues byte then variable_name
    else if byte == code ":" then name_colon
    else if byte == code "(" then arguments else begun byte)
    else if state == variable_colon then (if byte == code ":" then variable else in_variable byte)
    else if state == name_colon then (if byte == code ":" then variable_name else in_variable byte)
    else if state == arguments then (if byte == code ")" || byte == code " " || byte == 9 || byte == 10 || byte == 13 || byte == 12 then outside else arguments)
    else if state == parameter then (if is_ascii_digit byte then parameter else begun byte)
    else begun byte

-- in U+FEFF, which is a blank
abbrev pub in_mark : ℕ → ℕ → ℕ
in_mark state byte =
    if state == mark && byte == 187 then mark_end
    else if state == mark_end && byte == 191 then outside
    else in_word byte

-- the state behind a byte
abbrev pub sqlite : Reader
sqlite state byte =
    if nat_le state comment_star then outside_quotes state byte
    else if nat_le state bracketed then in_quotes state byte
    else if nat_le state parameter then in_parameter state byte
    else in_mark state byte
