-- The columns of the table of books.
use Rattle.std.specs.Prelude.{ℕ, List, Option, Some, None, codes}
use Rattle.sql_builder.specs.Builder.{ClauseTexts, with_condition, with_limit}
use Rattle.sql_builder.specs.declared.condition.Condition.TheVariants.{Compare}
use Rattle.sql_builder.specs.Quoting.{quoted}
use Rattle.sql_builder.specs.Text.{decimal_text}
use Rattle.sql_builder.specs.declared.condition.Family.TheVariants.{And}
use Rattle.sql_builder.specs.declared.condition.Relation.TheVariants.{Eq}
use Rattle.callers.specs.declared.values.Column.{Column}
use Rattle.callers.specs.declared.values.Column.TheVariants.{Title, Price}

-- a column's name
abbrev pub column_text : Column → List ℕ
column_text Title = codes "title"
column_text Price = codes "price"

-- at most so many, where that is said
abbrev pub limited : Option ℕ → ClauseTexts → ClauseTexts
limited None r = r
limited (Some most) r = with_limit (decimal_text most) r

-- of this author, where one is given
abbrev pub by_author : Option (List ℕ) → ClauseTexts → ClauseTexts
by_author None r = r
by_author (Some author) r = with_condition And (Compare Eq (codes "author") (quoted author)) r
