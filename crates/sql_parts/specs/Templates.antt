-- Templates: texts whose placeholders are replaced by values, where the values stand apart, and the tokens of a bound text.
use Prim.Native.Char.{code}
use Rattle.std.specs.Prelude.{Bool, IsTrue, List, None, Option, Some, [], codes, drop, false, flat_map, if◌then◌else◌, length, nat_eq, nat_le, negsuc}
use Rattle.std.specs.Prelude.{option_map, pos, slice_get, suc, take, true, unwrap_or, zero, ℕ, ◌%◌, ◌&&◌, ◌++◌, ◌+◌, ◌-◌, ◌==◌, ◌||◌, ◌∷◌, ◌≡◌}
use Rattle.std.specs.Char.{is_ascii_digit}
use Rattle.std.specs.List.{position_or_len, prefix_len, starts_with}
use Rattle.std.specs.Str.Parse.{digits_value}
use Rattle.sql_parts.specs.Literal.{LiteralValue, literal_text, null, truth, whole, words}
use Rattle.sql_parts.specs.Text.{decimal_text}
use Rattle.sql_parts.specs.Tokens.{Token, Word, Str, Symbol, begins_with, closed, ends_with, is_empty, is_separator, tokens}

-- What the placeholders are: the first `?`; each `?`, with so many arguments; `$` and this number; `$` and any number, with so
-- many arguments; this name between colons; any name between colons.
pub data Marks : Type 0 where
  First : Marks
  Cycle : ℕ → Marks
  Num : ℕ → Marks
  Nums : ℕ → Marks
  Name : List ℕ → Marks
  Names : Marks

-- What a placeholder is replaced by: an argument, counted from 0, or what a name is bound to.
pub data Replacement : Type 0 where
  Argument : ℕ → Replacement
  Named : List ℕ → Replacement

-- What is at a place: a text, perhaps another than is read there, or a value.
pub data Content : Type 0 where
  Writes : List ℕ → Content
  Holds : Replacement → Content

-- the text that every placeholder and every escape begins with
abbrev pub prefix : Marks → List ℕ
prefix First = codes "?"
prefix (Cycle count) = codes "?"
prefix (Num number) = codes "$" ++ decimal_text number
prefix (Nums count) = codes "$"
prefix (Name name) = codes ":" ++ name ++ codes ":"
prefix Names = codes ":"

-- `$` and the digits behind it: number 0 is one `$` where another `$` follows at once, and else nothing,
-- and so is a number past the list.
abbrev pub numbered : ℕ → List ℕ → Content × ℕ
numbered count behind =
    let digits = prefix_len is_ascii_digit behind in
    let number = digits_value 10 (take digits behind) in
    if number == 0 then (if starts_with nat_eq (drop digits behind) (codes "$") then (Writes (codes "$"), digits + 1) else (Writes [], digits))
    else (if nat_le number count then (Holds (Argument (number - 1)), digits) else (Writes [], digits))

-- `:` and the name up to the next `:`. Without one it is text, and two at once are one `:`.
abbrev pub named : List ℕ → Content × ℕ
named behind =
    let end = position_or_len (λ byte. byte == code ":") behind in
    if end == length behind then (Writes (codes ":"), 0)
    else (if end == 0 then (Writes (codes ":"), 1) else (Holds (Named (take end behind)), end + 1))

-- `$` and a number: no placeholder where one more digit follows, and then it is text.
abbrev pub whole_number : ℕ → List ℕ → Content × ℕ
whole_number number behind =
    if prefix_len is_ascii_digit behind == 0 then (Holds (Argument 0), 0) else (Writes (prefix (Num number)), 0)

-- What is read at a prefix, and how many bytes of the text behind it belong to it, where `seen` placeholders precede it.
abbrev pub place_behind : Marks → ℕ → List ℕ → Content × ℕ
place_behind First seen behind = if seen == 0 then (Holds (Argument 0), 0) else (Writes (codes "?"), 0)
place_behind (Cycle count) seen behind = (Holds (Argument (seen % count)), 0)
place_behind (Num number) seen behind = whole_number number behind
place_behind (Nums count) seen behind = numbered count behind
place_behind (Name name) seen behind = (Holds (Argument 0), 0)
place_behind Names seen behind = named behind

-- What is read at a byte, and how many of the bytes behind it belong to it: where no prefix begins it is text.
abbrev pub place_at : Marks → ℕ → ℕ → List ℕ → Content × ℕ
place_at marks seen byte behind =
    let more = length (prefix marks) - 1 in
    let found = place_behind marks seen (drop more behind) in
    if starts_with nat_eq (byte ∷ behind) (prefix marks) then (found.0, more + found.1) else (Writes (byte ∷ []), 0)

-- The first segment of a template, and each value with the segment behind it.
abbrev pub Resolved : Type 0
Resolved = List ℕ × List (Replacement × List ℕ)

-- what is at a place, and then the rest: a text is part of the segment behind it
abbrev pub followed_by : Content → Resolved → Resolved
followed_by (Writes text) rest = (text ++ rest.0, rest.1)
followed_by (Holds value) rest = ([], (value, rest.0) ∷ rest.1)

-- how many placeholders precede what is behind a place
abbrev pub counted : Content → ℕ → ℕ
counted (Writes text) seen = seen
counted (Holds value) seen = suc seen

-- A text that `seen` placeholders precede, without its first `skipped` bytes: what is at its first byte, and then the rest
-- likewise.
abbrev pub resolved_from : Marks → ℕ → ℕ → List ℕ → Resolved
resolved_from marks seen skipped [] = ([], [])
resolved_from marks seen zero (byte ∷ behind) =
    let found = place_at marks seen byte behind in followed_by found.0 (resolved_from marks (counted found.0 seen) found.1 behind)
resolved_from marks seen (suc skipped) (byte ∷ behind) = resolved_from marks seen skipped behind

-- nothing, where there is a placeholder and no argument to go round with
abbrev pub supplied : Marks → Resolved → Option Resolved
supplied (Cycle zero) (segment, value ∷ values) = None
supplied _ resolved = Some resolved

-- The template as segments with values between them.
abbrev pub resolve : List ℕ → Marks → Option Resolved
resolve template marks = supplied marks (resolved_from marks 0 0 template)

-- the segments with the literals of the values between them
abbrev pub written : (Replacement → LiteralValue) → Resolved → List ℕ
written literals resolved = resolved.0 ++ flat_map (λ part. literal_text (literals part.0) ++ part.1) resolved.1

-- The template with a literal in place of each placeholder.
abbrev pub bound : List ℕ → Marks → (Replacement → LiteralValue) → Option (List ℕ)
bound template marks literals = option_map (written literals) (resolve template marks)

-- one literal for every value
abbrev pub alone : LiteralValue → Replacement → LiteralValue
alone literal value = literal

-- the literals of the arguments
abbrev pub listed : List LiteralValue → Replacement → LiteralValue
listed literals (Argument at) = unwrap_or (slice_get literals at) null
listed literals (Named name) = null

-- the literals of the names, and null for a name that has none
abbrev pub looked_up : (List ℕ → Option LiteralValue) → Replacement → LiteralValue
looked_up literals (Argument at) = null
looked_up literals (Named name) = unwrap_or (literals name) null

-- A segment, and whether it is the first and the last of its template: it is closed; where a value is behind it, it is empty and
-- the first, or ends in a separator; where a value is before it, it is empty and the last, or begins with a separator.
abbrev pub segment_apart : Bool → Bool → List ℕ → Bool
segment_apart first last segment =
    closed segment
    && (last || first && is_empty segment || ends_with is_separator segment)
    && (first || last && is_empty segment || begins_with is_separator segment)

-- each segment of a template
abbrev pub segments_apart : {V : Type 0} → Bool → List ℕ → List (V × List ℕ) → Bool
segments_apart first segment [] = segment_apart first true segment
segments_apart first segment (next ∷ parts) = segment_apart first false segment && segments_apart false next.1 parts

-- the segments of a resolved template, where there is one
abbrev pub resolved_apart : Option Resolved → Bool
resolved_apart None = false
resolved_apart (Some resolved) = segments_apart true resolved.0 resolved.1

-- The values of a template stand apart: there is a resolved template, and each of its segments is as said above.
abbrev pub apart : List ℕ → Marks → Bool
apart template marks = resolved_apart (resolve template marks)

-- the tokens of a literal's text
abbrev pub literal_tokens : LiteralValue → List Token
literal_tokens null = Word (codes "NULL") ∷ []
literal_tokens (truth value) = Word (if value then codes "TRUE" else codes "FALSE") ∷ []
literal_tokens (whole (pos n)) = Word (decimal_text n) ∷ []
literal_tokens (whole (negsuc n)) = Symbol (code "-") ∷ Word (decimal_text (suc n)) ∷ []
literal_tokens (words text) = Str text ∷ []

-- the tokens of the segments, with those of the literals between them
abbrev pub bound_tokens : (Replacement → LiteralValue) → Resolved → List Token
bound_tokens literals resolved = tokens resolved.0 ++ flat_map (λ part. literal_tokens (literals part.0) ++ tokens part.1) resolved.1

-- there is a resolved template: no `?` lacks an argument
abbrev pub IsSupplied : List ℕ → Marks → Type 0
IsSupplied template marks = resolve template marks ≡ Some (resolved_from marks 0 0 template)

-- Where the values of a template stand apart, a text has the tokens of the template with these literals in it.
abbrev pub HasBoundTokens : List ℕ → Marks → (Replacement → LiteralValue) → List ℕ → Type 0
HasBoundTokens template marks literals text =
    IsTrue (apart template marks) → Some (tokens text) ≡ option_map (bound_tokens literals) (resolve template marks)

-- where the values of a template stand apart, a text is closed
abbrev pub IsClosedIfApart : List ℕ → Marks → List ℕ → Type 0
IsClosedIfApart template marks text = IsTrue (apart template marks) → IsTrue (closed text)
