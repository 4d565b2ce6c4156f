-- What `bind_nums` makes of texts one after another, of texts without a `$`, and of placeholders.
use Prim.Native.Char.{code}
use Rattle.std.specs.Prelude.{◌≡◌, ◌≤◌, ◌==◌, ◌||◌, ◌++◌, ℕ, suc, Bool, IsTrue, List, Some, not}
use Rattle.std.specs.Char.{is_ascii_digit}
use Rattle.sql_parts.specs.Literal.{LiteralValue, literal_text}
use Rattle.sql_parts.specs.Parameters.{placeholder_text}
use Rattle.sql_parts.specs.Templates.{Argument, Nums, Replacement, bound, resolved_from, written}
use Rattle.sql_parts.specs.Tokens.{begins_with}
use Rattle.sql_parts.specs.declared.parameter.Style.TheVariants.{Dollar}

-- a text with the literals of its numbers
abbrev pub with_values : ℕ → (Replacement → LiteralValue) → List ℕ → List ℕ
with_values count literals text = written literals (resolved_from (Nums count) 0 0 text)

-- `bind_nums` of so many arguments gives it
abbrev pub NumbersAreBound : Type 0
NumbersAreBound = (count : ℕ) (literals : Replacement → LiteralValue) (text : List ℕ) → bound text (Nums count) literals ≡ Some (with_values count literals text)

-- a digit or a `$`, which a placeholder before it would take
abbrev pub is_taken : ℕ → Bool
is_taken byte = is_ascii_digit byte || byte == code "$"

-- A text before another that begins with no such byte keeps its literals, and so does that.
abbrev pub TextsBindApart : Type 0
TextsBindApart = (count : ℕ) (literals : Replacement → LiteralValue) (one other : List ℕ) → IsTrue (not (begins_with is_taken other))
    → with_values count literals (one ++ other) ≡ with_values count literals one ++ with_values count literals other

-- the placeholder of a value becomes its literal
abbrev pub PlaceholdersAreBound : Type 0
PlaceholdersAreBound = (count before : ℕ) (literals : Replacement → LiteralValue) → suc before ≤ count
    → with_values count literals (placeholder_text Dollar (suc before)) ≡ literal_text (literals (Argument before))
