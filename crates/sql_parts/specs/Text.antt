-- How numbers and truth values are written as texts, and how texts are joined.
use Rattle.std.specs.Prelude.{ℕ, suc, ℤ, pos, negsuc, ◌+◌, List, [], ◌∷◌, ◌++◌, Bool, ◌==◌, if◌then◌else◌, Option, Some, None, option_map, flat_map, map, codes}
use Rattle.std.specs.Prelude.{String, Vec, string_bytes}
use Rattle.std.specs.Int.Digits.{digits_of}
use Rattle.std.specs.List.{list_any}

-- a natural number of any size in decimal, without leading zeros
abbrev pub decimal_text : ℕ → List ℕ
decimal_text n = if n == 0 then codes "0" else map (λ digit. 48 + digit) (digits_of 10 n)

-- a whole number of any size in decimal, with `-` before a negative one
abbrev pub number_text : ℤ → List ℕ
number_text (pos n) = decimal_text n
number_text (negsuc n) = 45 ∷ decimal_text (suc n)

-- a truth value in small letters
abbrev pub bool_text : Bool → List ℕ
bool_text value = if value then codes "true" else codes "false"

-- a text has this byte
abbrev pub has_byte : ℕ → List ℕ → Bool
has_byte byte text = list_any (λ it. it == byte) text

-- the bytes of each text
abbrev pub texts : {Z : Type 0} → List (String Z) → List (List ℕ)
texts strings = map (λ s. string_bytes s) strings

-- the bytes of a text and of those behind it, where there is one
abbrev pub optional_texts : {Z : Type 0} → Option (String Z × Vec (String Z) Z) → List (List ℕ)
optional_texts None = []
optional_texts (Some strings) = string_bytes strings.0 ∷ texts strings.1.items

-- the bytes of a text, where there is one
abbrev pub optional_text : {Z : Type 0} → Option (String Z) → Option (List ℕ)
optional_text string = option_map (λ s. string_bytes s) string

-- the lists one after another, with `between` between each and the next
abbrev pub join_with : {A : Type 0} → List A → List (List A) → List A
join_with between [] = []
join_with between (x ∷ xs) = x ++ flat_map (λ y. between ++ y) xs
