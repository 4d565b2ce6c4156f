-- What a search form asks for of the table of books.
use Rattle.std.specs.Prelude.{ℕ, Bool, false, List, Option, None, Some, codes, if◌then◌else◌, map, option_map}
use Rattle.std.specs.Borrow.{Bor}
use Rattle.sql_parts.specs.Literal.{literal_text, words}
use Rattle.sql_parts.specs.Quoting.{quoted}
use Rattle.sql_builder.specs.Calls.{Cond, Field, OrderAsc, SelectFrom}
use Rattle.sql_builder.specs.Condition.{condition_bytes}
use Rattle.sql_builder.specs.declared.condition.Condition.TheVariants.{Compare, Raw}
use Rattle.sql_builder.specs.Text.{decimal_text}
use Rattle.sql_builder.specs.declared.condition.Family.TheVariants.{And}
use Rattle.sql_builder.specs.declared.condition.Percent.TheVariants.{Any}
use Rattle.sql_builder.specs.declared.condition.Relation.TheVariants.{Ge, Gt}
use Rattle.sql_parts.specs.declared.arg.Value.{Value}
use Rattle.sql_builder.specs.Combined.{like_text}
use Rattle.sql_typed.specs.Conditions.{equal_or_null, escaped_mask, list_text}
use Rattle.sql_typed.specs.Fits.{Made, adding, beginning}
use Rattle.callers.specs.Columns.{column_text}
use Rattle.callers.specs.declared.form.Form.{Form}

-- one more condition
abbrev pub where_also : List ℕ → Made → Made
where_also condition before = adding (Cond And (Raw condition)) before

-- the text of a value
abbrev pub value_text : Value (Bor (List ℕ)) → List ℕ
value_text value = literal_text (words value.0.now)

-- each filter, if it is given
abbrev pub of_title : Option (Bor (List ℕ)) → Made → Made
of_title None before = before
of_title (Some title) before = where_also (like_text false (codes "title") (quoted (escaped_mask Any title.now))) before

abbrev pub of_author : Option (Option (Value (Bor (List ℕ)))) → Made → Made
of_author None before = before
of_author (Some author) before = where_also (equal_or_null (codes "author") (option_map value_text author)) before

abbrev pub from_price : Option ℕ → Made → Made
from_price None before = before
from_price (Some price) before = where_also (condition_bytes (Compare Ge (codes "price") (decimal_text price))) before

abbrev pub of_genres : Option (Bor (List (Value (Bor (List ℕ))))) → Made → Made
of_genres None before = before
of_genres (Some genres) before = where_also (list_text false (codes "genre") (map value_text genres.now)) before

abbrev pub in_stock : Bool → Made → Made
in_stock stocked before = if stocked then where_also (condition_bytes (Compare Gt (codes "stock") (codes "0"))) before else before

-- the titles of such books, in the order of a column
abbrev pub asked : Form → Made
asked form =
    adding (OrderAsc (column_text form.column))
    (in_stock form.in_stock
    (of_genres form.genres
    (from_price form.price
    (of_author form.author (of_title form.title (adding (Field (codes "title")) (beginning (SelectFrom (codes "books")))))))))
