-- What the code says of tokens, in the words of their definition.
use Rattle.std.specs.Prelude.{◌≡◌, ℕ, List, [], ◌∷◌, Option, Some, None, drop, option_map}
use Rattle.std.specs.Borrow.{Bor}
use Rattle.sql_parts.specs.Tokens as tokens
use Rattle.sql_parts.specs.declared.tokenizer.Token.{Token}
use Rattle.sql_parts.specs.declared.tokenizer.Token.TheVariants as seen

-- the code's token represents this one; it doesn't store what is between quotes
abbrev pub Represents : Token → tokens.Token → Type 0
Represents (seen.Word text) token = token ≡ tokens.Word text.now
Represents (seen.Symbol byte) token = token ≡ tokens.Symbol byte
Represents seen.Open token = token ≡ tokens.Open
Represents seen.Quoted (tokens.Str text) = Unit {0}
Represents seen.Quoted (tokens.Name text) = Unit {0}
Represents seen.Quoted token = ⊥

-- what the code read at the beginning of a text is what a rule gives
abbrev pub IsRead : List ℕ → Option Token × Bor (List ℕ) → List tokens.Token × ℕ → Type 0
IsRead behind (None, rest) ([], skipped) = rest.now ≡ drop skipped behind
IsRead behind (Some token, rest) (defined ∷ [], skipped) = Represents token defined × (rest.now ≡ drop skipped behind)
IsRead behind read given = ⊥

-- the text behind so many bytes, where they are given
abbrev pub behind_bytes : List ℕ → Option ℕ → Option (List ℕ)
behind_bytes text bytes = option_map (λ count. drop count text) bytes

-- the bytes of a text that may be there
abbrev pub optional_bytes : Option (Bor (List ℕ)) → Option (List ℕ)
optional_bytes text = option_map (λ borrowed. borrowed.now) text
