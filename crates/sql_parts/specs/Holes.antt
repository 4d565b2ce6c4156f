-- Templates with holes: each `?` is one, in which an operand is to be.
use Prim.Native.Char.{code}
use Rattle.std.specs.Prelude.{ℕ, ◌-◌, ◌==◌, ◌&&◌, ◌||◌, Bool, false, true, List, [], ◌∷◌, ◌++◌, drop, flat_map, if◌then◌else◌, codes, length, take}
use Rattle.std.specs.List.{count_by}
use Rattle.sql_parts.specs.Fragments.{balanced, is_symbol}
use Rattle.sql_parts.specs.Templates.{segments_apart}
use Rattle.sql_parts.specs.Tokens.{Token, Symbol, begins_with, ends_with, tokens}

-- how many holes a text has
abbrev pub hole_count : List ℕ → ℕ
hole_count template = count_by (λ byte. byte == code "?") template

-- the text before the first hole, and the text behind each
abbrev pub cut : List ℕ → List ℕ × List (List ℕ)
cut [] = ([], [])
cut (byte ∷ behind) = let rest = cut behind in if byte == code "?" then ([], rest.0 ∷ rest.1) else (byte ∷ rest.0, rest.1)

-- each hole with the text behind it: in it is one of these texts, in their order, and `?` where none is left
abbrev pub holding : List (List ℕ) → List (List ℕ) → List (List ℕ × List ℕ)
holding texts [] = []
holding [] (segment ∷ segments) = (codes "?", segment) ∷ holding [] segments
holding (text ∷ texts) (segment ∷ segments) = (text, segment) ∷ holding texts segments

-- A template with these texts in its holes.
abbrev pub filled : List (List ℕ) → List ℕ → List ℕ
filled texts template = (cut template).0 ++ flat_map (λ part. part.0 ++ part.1) (holding texts (cut template).1)

-- The holes stand apart: what is between them is closed, and nothing but a separator or an end of the text is beside one.
abbrev pub holes_apart : List ℕ → Bool
holes_apart template = segments_apart true (cut template).0 (holding [] (cut template).1)

-- a word, or a text or a name between quotes
abbrev pub is_part : Token → Bool
is_part (Symbol byte) = false
is_part _ = true

-- one token, or parts with a dot between each and the next
abbrev pub is_dotted : List Token → Bool
is_dotted [] = false
is_dotted (token ∷ []) = true
is_dotted (token ∷ next ∷ ts) = is_part token && is_symbol (code ".") next && is_dotted ts

-- a text without the sign of a placeholder at its front
abbrev pub unsigned : List ℕ → List ℕ
unsigned [] = []
unsigned (byte ∷ behind) = if byte == code "?" || byte == code "$" then behind else byte ∷ behind

-- brackets round a text that is balanced by itself
abbrev pub is_bracketed : List ℕ → Bool
is_bracketed text =
    let behind = drop 1 text in
    begins_with (λ byte. byte == code "(") text && ends_with (λ byte. byte == code ")") behind && balanced (take (length behind - 1) behind)

-- a literal that isn't negative, a placeholder, a name, or a text in brackets: no operator beside it takes it apart
abbrev pub is_unit : List ℕ → Bool
is_unit text = is_dotted (tokens (unsigned text)) || is_bracketed text

-- an operand as it is written in a hole: in brackets, unless it is a unit
abbrev pub in_hole : List ℕ → List ℕ
in_hole text = if is_unit text then text else codes "(" ++ text ++ codes ")"
