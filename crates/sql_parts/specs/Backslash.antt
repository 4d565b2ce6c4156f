-- String literals for a reader that takes a backslash and the character behind it as one character, as MySQL and MariaDB do by default.
use Prim.Native.Char.{code}
use Rattle.std.specs.Prelude.{ℕ, suc, ◌==◌, Bool, List, [], ◌∷◌, if◌then◌else◌, Option, Some, None, option_map}
use Rattle.sql_parts.specs.Text.{has_byte}

-- a text has a backslash
abbrev pub has_backslash : List ℕ → Bool
has_backslash text = has_byte (code "\\") text

-- Behind the quote that opens a literal: the text up to the quote that closes it, and how many bytes reach to the end of that quote.
-- A backslash and the character behind it stand for that character, and two quotes for one. Databases give some characters behind
-- a backslash another meaning, as `\n`: that changes what the literal stands for, and not where it ends. Bytes will do, since no
-- further byte of a character is a quote or a backslash.
abbrev pub inside : List ℕ → Option (List ℕ × ℕ)
inside [] = None
inside (byte ∷ []) = if byte == code "'" then Some ([], 1) else None
inside (byte ∷ next ∷ behind) =
    if byte == code "\\" then option_map (λ found. (next ∷ found.0, suc (suc found.1))) (inside behind)
    else (if byte == code "'" then (if next == code "'" then option_map (λ found. (code "'" ∷ found.0, suc (suc found.1))) (inside behind) else Some ([], 1))
    else option_map (λ found. (byte ∷ found.0, suc found.1)) (inside (next ∷ behind)))

-- the literal at the beginning of a text: what it stands for, and how many bytes it has with its quotes
abbrev pub literal : List ℕ → Option (List ℕ × ℕ)
literal [] = None
literal (byte ∷ behind) = if byte == code "'" then option_map (λ found. (found.0, suc found.1)) (inside behind) else None
