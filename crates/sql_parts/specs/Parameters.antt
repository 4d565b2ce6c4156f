-- Placeholders of values that are beside a statement.
use Prim.Native.Char.{code}
use Rattle.std.specs.Prelude.{ℕ, suc, List, [], ◌∷◌}
use Rattle.sql_parts.specs.Text.{decimal_text}
use Rattle.sql_parts.specs.declared.parameter.Placeholder.{Placeholder}
use Rattle.sql_parts.specs.declared.parameter.Style.{Style}
use Rattle.sql_parts.specs.declared.parameter.Style.TheVariants as style

-- the byte that a placeholder begins with
abbrev pub prefix : Style → ℕ
prefix style.Question = code "?"
prefix style.Dollar = code "$"

-- the placeholder of the value of this number
abbrev pub placeholder_text : Style → ℕ → List ℕ
placeholder_text style number = prefix style ∷ decimal_text number

-- the placeholders of values that are behind so many others
abbrev pub placeholders_behind : {V : Type 0} → Style → ℕ → List V → List Placeholder
placeholders_behind style before [] = []
placeholders_behind style before (value ∷ values) =
    (record { style = style; number = suc before }) ∷ placeholders_behind style (suc before) values
