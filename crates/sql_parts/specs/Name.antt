-- Names of SQL, and how each form writes them.
use Prim.Native.Char.{code}
use Rattle.std.specs.Prelude.{ℕ, List, [], ◌∷◌, ◌++◌, Bool, true, ◌&&◌, ◌||◌, ◌==◌, nat_le, Option, Some, None, codes, map, if◌then◌else◌}
use Rattle.std.specs.List.{list_all}
use Rattle.sql_parts.specs.Quoting.{baquoted, between}
use Rattle.sql_parts.specs.Text.{join_with}
use Rattle.sql_parts.specs.Tokens as tokens
use Rattle.sql_parts.specs.Tokens.{Token, Word, Str, Symbol, quoted_token}
use Rattle.sql_parts.specs.declared.name.Form.{Form}
use Rattle.sql_parts.specs.declared.name.Form.TheVariants.{Bare, Between}
use Rattle.sql_parts.specs.declared.delimiters.Quotes.TheVariants.{Back}
use Rattle.sql_parts.specs.declared.name.Change.{Change}
use Rattle.sql_parts.specs.declared.name.Change.TheVariants.{Part, Alias}

-- A name: its first part, the parts behind it, and perhaps an alias.
pub record Name : Type 0 where
  pub first : List ℕ
  pub rest : List (List ℕ)
  pub alias : Option (List ℕ)

-- all parts of a name, of which there is at least one
abbrev pub name_parts : Name → List (List ℕ)
name_parts name = name.first ∷ name.rest

-- the name of one part, without an alias
abbrev pub name_of : List ℕ → Name
name_of part = record { first = part; rest = []; alias = None }

-- the name with one more part behind the others
abbrev pub with_part : List ℕ → Name → Name
with_part part name = record { first = name.first; rest = name.rest ++ part ∷ []; alias = name.alias }

-- the name with this alias in place of any other
abbrev pub with_alias : List ℕ → Name → Name
with_alias alias name = record { first = name.first; rest = name.rest; alias = Some alias }

-- the name with this part or this alias
abbrev pub with_change : Change → List ℕ → Name → Name
with_change Part text name = with_part text name
with_change Alias text name = with_alias text name

-- a byte is a small ASCII letter, a digit or `_`
abbrev pub is_plain_byte : ℕ → Bool
is_plain_byte byte = nat_le 97 byte && nat_le byte 122 || nat_le 48 byte && nat_le byte 57 || byte == 95

-- a text has such bytes alone; the empty text is plain too
abbrev pub is_plain : List ℕ → Bool
is_plain text = list_all is_plain_byte text

-- ` AS ` and the alias, bare if it is plain and else between backquotes; nothing without an alias
abbrev pub alias_text : Option (List ℕ) → List ℕ
alias_text None = []
alias_text (Some alias) = codes " AS " ++ (if is_plain alias then alias else baquoted alias)

-- the parts, each written so, with dots between them, and then the alias
abbrev pub name_text : (List ℕ → List ℕ) → Name → List ℕ
name_text written name = join_with (codes ".") (map written (name_parts name)) ++ alias_text name.alias

-- a text itself
abbrev pub bare : List ℕ → List ℕ
bare text = text

-- the tokens of a plain text: one word, and none of an empty text
abbrev pub word_tokens : List ℕ → List Token
word_tokens [] = []
word_tokens (byte ∷ text) = Word (byte ∷ text) ∷ []

-- the tokens of an alias: AS, and those of the alias
abbrev pub alias_tokens : Option (List ℕ) → List Token
alias_tokens None = []
alias_tokens (Some alias) = Word (codes "AS") ∷ (if is_plain alias then word_tokens alias else tokens.Name alias ∷ [])

-- the tokens of a name: those of its parts, with dots between them, and then those of the alias
abbrev pub name_tokens : (List ℕ → List Token) → Name → List Token
name_tokens part_tokens name = join_with (Symbol (code ".") ∷ []) (map part_tokens (name_parts name)) ++ alias_tokens name.alias

-- one text that parses back as the part
abbrev pub str_token : List ℕ → List Token
str_token part = Str part ∷ []

-- one name that parses back as the part
abbrev pub name_token : List ℕ → List Token
name_token part = tokens.Name part ∷ []

-- a part as the form writes it
abbrev pub written_in : Form → List ℕ → List ℕ
written_in Bare = bare
written_in (Between quotes) = between quotes

-- the tokens of a part as the form writes it
abbrev pub tokens_in : Form → List ℕ → List Token
tokens_in Bare part = word_tokens part
tokens_in (Between quotes) part = quoted_token quotes part ∷ []

-- the safe form: all parts bare if all are plain, else all between backquotes
abbrev pub safe_form : Name → Form
safe_form name = if list_all is_plain (name_parts name) then Bare else Between Back

-- a name in its safe form
abbrev pub safe_text : Name → List ℕ
safe_text name = name_text (written_in (safe_form name)) name

-- the tokens of a name in its safe form
abbrev pub safe_tokens : Name → List Token
safe_tokens name = name_tokens (tokens_in (safe_form name)) name

-- the bare form fits plain parts alone
abbrev pub fits_form : Form → List (List ℕ) → Bool
fits_form Bare parts = list_all is_plain parts
fits_form (Between quotes) parts = true
