-- What a search and an insert by types ask for.
use Rattle.std.specs.Prelude.{ℕ, List, [], ◌∷◌, codes}
use Rattle.sql_parts.specs.Quoting.{quoted}
use Rattle.sql_builder.specs.Calls.{Cond, Field, InsertInto, SelectFrom, Values}
use Rattle.sql_builder.specs.Condition.{condition_bytes}
use Rattle.sql_builder.specs.declared.condition.Condition.TheVariants.{Raw}
use Rattle.sql_builder.specs.declared.condition.Family.TheVariants.{And}
use Rattle.sql_typed.specs.Fits.{Made, adding, beginning}
use Rattle.callers.specs.Searches.{written_by}

-- those by an author
abbrev pub by_author : List ℕ → Made → Made
by_author author before = adding (Cond And (Raw (condition_bytes (written_by author)))) before

-- the books of an author
abbrev pub asked_of_author : List ℕ → Made
asked_of_author author = by_author author (beginning (SelectFrom (codes "books")))

-- a user of a name
abbrev pub asked_to_name : List ℕ → Made
asked_to_name name = adding (Values (quoted name ∷ [])) (adding (Field (codes "name")) (beginning (InsertInto (codes "users"))))
