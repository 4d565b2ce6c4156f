-- What a search asks for of the table of books.
use Rattle.std.specs.Prelude.{ℕ, List, [], ◌∷◌, ◌++◌, codes, false, if◌then◌else◌, option_map}
use Rattle.std.specs.Option.{option_to_list}
use Rattle.sql_builder.specs.Calls.{CallText, Cond, Field, OrderAsc}
use Rattle.sql_builder.specs.Condition.{ConditionText}
use Rattle.sql_builder.specs.declared.condition.Condition.TheVariants.{Compare, Like}
use Rattle.sql_builder.specs.Quoting.{quoted}
use Rattle.sql_builder.specs.Text.{decimal_text}
use Rattle.sql_builder.specs.declared.condition.Family.TheVariants.{And}
use Rattle.sql_builder.specs.declared.condition.Percent.TheVariants.{Any}
use Rattle.sql_builder.specs.declared.condition.Relation.TheVariants.{Eq, Ge, Gt}
use Rattle.callers.specs.declared.searches.Search.{Search}

-- the condition of each filter
abbrev pub titled : List ℕ → ConditionText
titled title = Like false Any (codes "title") title

abbrev pub written_by : List ℕ → ConditionText
written_by author = Compare Eq (codes "author") (quoted author)

abbrev pub priced_from : ℕ → ConditionText
priced_from price = Compare Ge (codes "price") (decimal_text price)

abbrev pub stocked : ConditionText
stocked = Compare Gt (codes "stock") (codes "0")

-- the call of each filter, if it is given
abbrev pub by_title : Search → List CallText
by_title search = option_to_list (option_map (λ title. Cond And (titled title.now)) search.title)

abbrev pub by_author : Search → List CallText
by_author search = option_to_list (option_map (λ author. Cond And (written_by author.now)) search.author)

abbrev pub by_price : Search → List CallText
by_price search = option_to_list (option_map (λ price. Cond And (priced_from price)) search.least_price)

abbrev pub by_stock : Search → List CallText
by_stock search = if search.in_stock then Cond And stocked ∷ [] else []

-- the order of the titles
abbrev pub ordered : CallText
ordered = OrderAsc (codes "title")

-- the calls that ask for the titles of such books, in order
abbrev pub calls : Search → List CallText
calls search = (Field (codes "title") ∷ []) ++ by_title search ++ by_author search ++ by_price search ++ by_stock search ++ ordered ∷ []
