-- A statement's text with `?` in place of its numbered placeholders, whose values go by their order in the text.
use Prim.Native.Char.{code}
use Rattle.std.specs.Prelude.{ℕ, zero, suc, ◌-◌, ◌^◌, ◌==◌, ◌&&◌, ◌||◌, Bool, not, List, [], ◌∷◌, ◌++◌, take, Option, Some, None, is_some}
use Rattle.std.specs.Prelude.{if◌then◌else◌, codes, flat_map, map, min, slice_get}
use Rattle.std.specs.Char.{is_ascii_digit}
use Rattle.std.specs.List.{prefix_len}
use Rattle.std.specs.Str.Parse.{digits_value}
use Rattle.sql_parts.specs.Parameters.{prefix}
use Rattle.sql_parts.specs.Tokens.{first, is_word_byte}
use Rattle.sql_parts.specs.declared.parameter.Style.{Style}
use Rattle.sql_parts.specs.declared.positional.PositionalError.{PositionalError}
use Rattle.sql_parts.specs.declared.positional.PositionalError.TheVariants.{NoValue, NoNumber, Memory}

-- The placeholder of a number, or a `?` that has none.
pub data Mark : Type 0 where
  Numbered : ℕ → Mark
  Bare : Mark

-- a byte of a word, or a `$`, which is a part of the name or the number before it
abbrev pub is_name_byte : ℕ → Bool
is_name_byte byte = is_word_byte byte || byte == code "$"

-- What is at a byte between two tokens, if it is no text that stays as it is, and how many of the bytes behind belong to it: a
-- placeholder with its digits, a `?`, a name, or what the first rule of tokens reads there, as a literal or a comment up to its end.
abbrev pub mark_at : Style → ℕ → List ℕ → Option Mark × ℕ
mark_at style byte behind =
    let digits = prefix_len is_ascii_digit behind in
    if byte == prefix style && not (digits == 0) then (Some (Numbered (digits_value 10 (take digits behind))), digits)
    else (if byte == code "?" then (Some Bare, 0)
    else (if is_name_byte byte then (None, prefix_len is_name_byte behind) else (None, (first byte behind).1)))

-- The text before the first mark, and each mark with the text behind it.
abbrev pub Cut : Type 0
Cut = List ℕ × List (Mark × List ℕ)

-- a mark, or a text that stays, and then the rest
abbrev pub followed_by : Option Mark → List ℕ → Cut → Cut
followed_by None text rest = (text ++ rest.0, rest.1)
followed_by (Some mark) text rest = ([], (mark, rest.0) ∷ rest.1)

-- a text without its first `skipped` bytes, cut at its marks
abbrev pub cut_from : Style → ℕ → List ℕ → Cut
cut_from style skipped [] = ([], [])
cut_from style zero (byte ∷ behind) =
    let found = mark_at style byte behind in followed_by found.0 (byte ∷ take found.1 behind) (cut_from style found.1 behind)
cut_from style (suc skipped) (byte ∷ behind) = cut_from style skipped behind

-- A text, cut at its marks.
abbrev pub cut : Style → List ℕ → Cut
cut style text = cut_from style 0 text

-- the marks of a text, in their order
abbrev pub marks : Style → List ℕ → List Mark
marks style text = map (λ part. part.0) (cut style text).1

-- a text with a `?` in place of each mark
abbrev pub marked : Cut → List ℕ
marked cut = cut.0 ++ flat_map (λ part. codes "?" ++ part.1) cut.1

-- A text with a `?` in place of each placeholder.
abbrev pub positional_text : Style → List ℕ → List ℕ
positional_text style text = marked (cut style text)

-- the value of a mark: the first value has the number 1
abbrev pub value_of : {V : Type 0} → List V → Mark → Option V
value_of values (Numbered zero) = None
value_of values (Numbered (suc before)) = slice_get values before
value_of values Bare = None

-- why a mark has none; a number past the code's is the greatest of these
abbrev pub error_of : Mark → PositionalError
error_of (Numbered number) = NoValue (min number (2 ^ 64 - 1))
error_of Bare = NoNumber

-- the error of the first mark that has no value
abbrev pub first_error : {V : Type 0} → List V → List Mark → Option PositionalError
first_error values [] = None
first_error values (mark ∷ marks) = if is_some (value_of values mark) then first_error values marks else Some (error_of mark)

-- memory ran out
abbrev pub IsMemory : PositionalError → Type 0
IsMemory (Memory error) = Unit {0}
IsMemory _ = ⊥

-- an error's message
abbrev pub message_text : PositionalError → List ℕ
message_text (NoValue number) = codes "No value for a placeholder"
message_text NoNumber = codes "A ? without a number"
message_text (Memory error) = codes "Out of memory"
