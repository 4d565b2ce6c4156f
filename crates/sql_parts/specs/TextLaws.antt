-- What the laws state.
use Prim.Native.Char.{code}
use Rattle.std.specs.Prelude.{◌≡◌, ◌≢◌, ◌==◌, ◌++◌, ◌↔◌, ℕ, IsTrue, false, List, Option, Some, length, option_map}
use Rattle.std.specs.List.{All}
use Rattle.std.specs.Str.{IsUtf8}
use Rattle.sql_parts.specs.Backslash as backslash
use Rattle.sql_parts.specs.Backslash.{has_backslash, literal}
use Rattle.sql_parts.specs.Like.{escape_character, like_escaped, matches}
use Rattle.sql_parts.specs.Literal.{LiteralValue, words}
use Rattle.sql_parts.specs.Quoting.{doubled}
use Rattle.sql_parts.specs.Templates.{Marks, Replacement, bound}
use Rattle.sql_parts.specs.Tokens.{begins_with, inside, tokens}
use Rattle.sql_parts.specs.declared.like.LikeEscape.{LikeEscape}

-- the bytes that placeholders begin with
abbrev pub dollar : ℕ
dollar = code "$"

abbrev pub colon : ℕ
colon = code ":"

abbrev pub question_mark : ℕ
question_mark = code "?"

-- texts that are written alike are the same text
abbrev pub IsInjective : (List ℕ → List ℕ) → Type 0
IsInjective written = (one other : List ℕ) → written one ≡ written other → one ≡ other

-- binding a text in which each such byte is doubled gives the text, whatever is bound
abbrev pub UndoesDoubling : ℕ → Marks → Type 0
UndoesDoubling byte marks = (text : List ℕ) (literals : Replacement → LiteralValue) → bound (doubled byte text) marks literals ≡ Some text

-- binding a text without such a byte gives the text, whatever is bound
abbrev pub LeavesTextWithout : ℕ → Marks → Type 0
LeavesTextWithout byte marks = (text : List ℕ) (literals : Replacement → LiteralValue) → All (λ other. other ≢ byte) text → bound text marks literals ≡ Some text

-- how many tokens a text has, where there is one
abbrev pub token_count : Option (List ℕ) → Option ℕ
token_count text = option_map (λ bytes. length (tokens bytes)) text

-- two literals are equal, or both are texts
abbrev pub DifferInText : LiteralValue → LiteralValue → Type 0
DifferInText (words one) (words other) = Unit {0}
DifferInText one other = one ≡ other

-- the same of the literals of each value
abbrev pub DifferInTexts : (Replacement → LiteralValue) → (Replacement → LiteralValue) → Type 0
DifferInTexts one other = (value : Replacement) → DifferInText (one value) (other value)

-- Where a backslash escapes, the literal that is written of a text without one ends at its last byte and stands for the text, whatever
-- follows it but a quote.
abbrev pub EndsAsWritten : (List ℕ → List ℕ) → Type 0
EndsAsWritten written = (text behind : List ℕ) → has_backslash text ≡ false → begins_with (λ byte. byte == code "'") behind ≡ false
    → literal (written text ++ behind) ≡ Some (text, length (written text))

-- Behind a quote, a text without a backslash has the same literal whether a backslash escapes or not.
abbrev pub HasOneReading : Type 0
HasOneReading = (text : List ℕ) → has_backslash text ≡ false → backslash.inside text ≡ inside (code "'") text

-- a mask that is made of an escaped text matches exactly the texts that are so to that text
abbrev pub MasksMatch : (List ℕ → List ℕ) → (List ℕ → List ℕ → Type 0) → Type 0
MasksMatch mask IsSo = (escape : LikeEscape) (text other : List ℕ) → IsUtf8 text → IsUtf8 other
    → IsTrue (matches (escape_character escape) (mask (like_escaped (escape_character escape) text)) other) ↔ IsSo other text
