-- What a mask of LIKE with an ESCAPE character matches. Characters are compared as they are; a database may take a capital for its
-- small letter.
use Prim.Native.Char.{code}
use Rattle.std.specs.Prelude.{ℕ, ◌==◌, ◌&&◌, ◌||◌, Bool, true, false, List, [], ◌∷◌, flat_map, if◌then◌else◌, Option, Some, None, option_map}
use Rattle.std.specs.List.{list_any}
use Rattle.std.specs.Option.{option_map_or}
use Rattle.std.specs.Str.{chars}
use Rattle.sql_parts.specs.declared.like.LikeEscape.{LikeEscape}
use Rattle.sql_parts.specs.declared.like.LikeEscape.TheVariants.{Exclamation, Hash, Slash, Caret, Bar, Tilde}

-- A part of a mask: any run of characters, an empty one too; any one character; this character.
pub data Part : Type 0 where
  AnyRun : Part
  AnyOne : Part
  Exactly : ℕ → Part

-- what a character stands for, where no escape character is before it
abbrev pub unescaped_part : ℕ → Part
unescaped_part character = if character == code "%" then AnyRun else (if character == code "_" then AnyOne else Exactly character)

-- The parts of a mask: the escape character and the character behind it stand for that character. A mask that ends in an escape
-- character with none behind it has no parts.
abbrev pub parts : ℕ → List ℕ → Option (List Part)
parts escape [] = Some []
parts escape (character ∷ []) = if character == escape then None else Some (unescaped_part character ∷ [])
parts escape (character ∷ next ∷ mask) =
    if character == escape then option_map (λ further. Exactly next ∷ further) (parts escape mask)
    else option_map (λ further. unescaped_part character ∷ further) (parts escape (next ∷ mask))

-- the ends of a text: the text, and what is left of it behind each of its characters
abbrev pub ends : List ℕ → List (List ℕ)
ends [] = [] ∷ []
ends (character ∷ text) = (character ∷ text) ∷ ends text

-- a text is these parts, one after another
abbrev pub fits : List Part → List ℕ → Bool
fits [] [] = true
fits [] (character ∷ text) = false
fits (AnyRun ∷ further) text = list_any (λ rest. fits further rest) (ends text)
fits (AnyOne ∷ further) [] = false
fits (AnyOne ∷ further) (character ∷ text) = fits further text
fits (Exactly wanted ∷ further) [] = false
fits (Exactly wanted ∷ further) (character ∷ text) = wanted == character && fits further text

-- A mask with this escape character matches a text. Both are UTF-8, of which the characters count; a mask without parts matches nothing.
abbrev pub matches : ℕ → List ℕ → List ℕ → Bool
matches escape mask text = option_map_or (λ given. fits given (chars text)) (parts escape (chars mask)) false

-- a wildcard, or the escape character
abbrev pub is_special : ℕ → ℕ → Bool
is_special escape character = character == code "%" || character == code "_" || character == escape

-- the text with the escape character before each wildcard and each escape character in it
abbrev pub like_escaped : ℕ → List ℕ → List ℕ
like_escaped escape text = flat_map (λ character. if is_special escape character then escape ∷ character ∷ [] else character ∷ []) text

-- the character that is meant
abbrev pub escape_character : LikeEscape → ℕ
escape_character Exclamation = code "!"
escape_character Hash = code "#"
escape_character Slash = code "/"
escape_character Caret = code "^"
escape_character Bar = code "|"
escape_character Tilde = code "~"
