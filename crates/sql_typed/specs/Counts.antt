-- Numbers of rows, as LIMIT and OFFSET take them.
use Rattle.std.specs.Prelude.{◌≡◌, ◌⊎◌, ℕ, List}
use Rattle.sql_parts.specs.Parameters.{placeholder_text}
use Rattle.sql_parts.specs.Text.{decimal_text}
use Rattle.sql_parts.specs.declared.parameter.Style.{Style}

-- a number in decimal, or a placeholder
abbrev pub IsCount : List ℕ → Type 0
IsCount text = ((n : ℕ) × (text ≡ decimal_text n)) ⊎ ((style : Style) × (number : ℕ) × (text ≡ placeholder_text style number))
