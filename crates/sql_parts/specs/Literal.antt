-- Literals of SQL as values, and how they are written.
use Rattle.std.specs.Prelude.{ℕ, ℤ, List, Bool, Option, Some, None, codes, if◌then◌else◌}
use Rattle.std.specs.String.{string_bytes}
use Rattle.sql_parts.specs.Quoting.{quoted}
use Rattle.sql_parts.specs.Text.{number_text}
use Rattle.sql_parts.specs.declared.arg.Literal.{Literal}
use Rattle.sql_parts.specs.declared.arg.Literal.TheVariants.{Null, Truth, Whole, Text}

-- What a literal stands for: null, a truth value, a whole number of any size, or a text.
pub data LiteralValue : Type 0 where
  null : LiteralValue
  truth : Bool → LiteralValue
  whole : ℤ → LiteralValue
  words : List ℕ → LiteralValue

-- how a literal is written in SQL
abbrev pub literal_text : LiteralValue → List ℕ
literal_text null = codes "NULL"
literal_text (truth value) = if value then codes "TRUE" else codes "FALSE"
literal_text (whole number) = number_text number
literal_text (words text) = quoted text

-- the literal that a `Literal` stands for
abbrev pub literal_value : Literal → LiteralValue
literal_value Null = null
literal_value (Truth value) = truth value
literal_value (Whole number) = whole number
literal_value (Text text) = words (string_bytes text)

-- the literal of an optional value: null where there is none
abbrev pub literal_or_null : {T : Type 0} → (T → LiteralValue) → Option T → LiteralValue
literal_or_null literal None = null
literal_or_null literal (Some value) = literal value
