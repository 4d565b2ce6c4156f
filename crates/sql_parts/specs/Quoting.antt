-- Texts between quotes.
use Prim.Native.Char.{code}
use Rattle.std.specs.Prelude.{ℕ, List, [], ◌∷◌, ◌++◌, ◌==◌, flat_map, if◌then◌else◌}
use Rattle.sql_parts.specs.declared.delimiters.Quotes.{Quotes}
use Rattle.sql_parts.specs.declared.delimiters.Quotes.TheVariants.{Single, Back, Square, Double}

-- the text with each byte `delimiter` in it written twice
abbrev pub doubled : ℕ → List ℕ → List ℕ
doubled delimiter text = flat_map (λ byte. if byte == delimiter then delimiter ∷ delimiter ∷ [] else byte ∷ []) text

-- the text between two delimiters, with each closing delimiter in it written twice
abbrev pub enclosed : ℕ → ℕ → List ℕ → List ℕ
enclosed opening closing text = opening ∷ doubled closing text ++ closing ∷ []

-- the delimiter before a text
abbrev pub opening : Quotes → ℕ
opening Single = code "'"
opening Back = code "`"
opening Square = code "["
opening Double = code "\""

-- the delimiter behind a text
abbrev pub closing : Quotes → ℕ
closing Single = code "'"
closing Back = code "`"
closing Square = code "]"
closing Double = code "\""

-- the text between these quotes
abbrev pub between : Quotes → List ℕ → List ℕ
between quotes text = enclosed (opening quotes) (closing quotes) text

-- the text with each single quote in it written twice
abbrev pub escaped : List ℕ → List ℕ
escaped text = doubled (code "'") text

-- the text between single quotes
abbrev pub quoted : List ℕ → List ℕ
quoted text = enclosed (code "'") (code "'") text

-- the text between backquotes
abbrev pub baquoted : List ℕ → List ℕ
baquoted text = enclosed (code "`") (code "`") text

-- the text between square brackets
abbrev pub brquoted : List ℕ → List ℕ
brquoted text = enclosed (code "[") (code "]") text

-- the text between double quotes
abbrev pub dquoted : List ℕ → List ℕ
dquoted text = enclosed (code "\"") (code "\"") text
