-- Statements whose values are beside them.
use Rattle.std.specs.Prelude.{◌≡◌, suc, List, [], ◌∷◌, ◌++◌, length}
use Rattle.sql_parts.specs.Parameters.{placeholders_behind}
use Rattle.sql_parts.specs.declared.parameter.Placeholder.{Placeholder}
use Rattle.sql_parts.specs.declared.parameter.Style.{Style}
use Rattle.sql_builder.specs.Calls.{CallText, FinishText, StartText}
use Rattle.sql_builder.specs.Statement.{statement}

-- the placeholders of values, of which the first has the number 1
abbrev pub placeholders : {V : Type 0} → Style → List V → List Placeholder
placeholders style values = placeholders_behind style 0 values

-- `bind` gives that of one more value
abbrev pub BindGivesTheNext : Type 0 → Type 0
BindGivesTheNext V = (style : Style) (values : List V) (value : V)
    → placeholders style (values ++ value ∷ []) ≡ placeholders style values ++ record { style = style; number = suc (length values) } ∷ []

-- A statement that is made of placeholders is the same for as many other values, whatever they and their types are.
abbrev pub ValuesAreBesideStatements : Type 0 → Type 0 → Type 0
ValuesAreBesideStatements V W = (start : List Placeholder → StartText) (calls : List Placeholder → List CallText) (finish : FinishText)
    (style : Style) (one : List V) (other : List W) → length one ≡ length other
    → statement (start (placeholders style one)) (calls (placeholders style one)) finish
    ≡ statement (start (placeholders style other)) (calls (placeholders style other)) finish
