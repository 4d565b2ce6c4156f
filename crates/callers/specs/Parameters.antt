-- What a search form asks for, with placeholders for its values.
use Rattle.std.specs.Prelude.{ℕ, suc, ◌+◌, List, [], ◌∷◌, ◌++◌, Option, None, Some, codes, false, map}
use Rattle.std.specs.Borrow.{Bor}
use Rattle.sql_parts.specs.Parameters.{placeholder_text, placeholders_behind}
use Rattle.sql_parts.specs.declared.parameter.Style.{Style}
use Rattle.sql_builder.specs.Calls.{Field, SelectFrom}
use Rattle.sql_builder.specs.Combined.{like_text}
use Rattle.sql_builder.specs.Condition.{condition_bytes}
use Rattle.sql_builder.specs.declared.condition.Condition.TheVariants.{Compare}
use Rattle.sql_builder.specs.declared.condition.Relation.TheVariants.{Eq, Ge, Le}
use Rattle.sql_typed.specs.Conditions.{list_text}
use Rattle.sql_typed.specs.Fits.{Made, adding, beginning}
use Rattle.callers.specs.Forms.{where_also}
use Rattle.callers.specs.declared.parameters.Given.{Given}
use Rattle.callers.specs.declared.parameters.Given.TheVariants.{Text, Number}
use Rattle.callers.specs.declared.parameters.Wanted.{Wanted}

-- each filter, if it is given: its placeholder has the number behind n
abbrev pub of_title : {X : Type 0} → Style → ℕ → Option X → Made → Made
of_title style n None before = before
of_title style n (Some title) before = where_also (condition_bytes (Compare Eq (codes "title") (placeholder_text style (suc n)))) before

abbrev pub like_mask : {X : Type 0} → Style → ℕ → Option X → Made → Made
like_mask style n None before = before
like_mask style n (Some mask) before = where_also (like_text false (codes "title") (placeholder_text style (suc n))) before

abbrev pub from_price : {X : Type 0} → Style → ℕ → Option X → Made → Made
from_price style n None before = before
from_price style n (Some price) before = where_also (condition_bytes (Compare Ge (codes "price") (placeholder_text style (suc n)))) before

abbrev pub to_price : {X : Type 0} → Style → ℕ → Option X → Made → Made
to_price style n None before = before
to_price style n (Some price) before = where_also (condition_bytes (Compare Le (codes "price") (placeholder_text style (suc n)))) before

-- the placeholders of a list have the numbers behind n
abbrev pub of_ids : {X : Type 0} → Style → ℕ → Option (Bor (List X)) → Made → Made
of_ids style n None before = before
of_ids style n (Some ids) before =
    where_also (list_text false (codes "id") (map (λ place. placeholder_text place.style place.number) (placeholders_behind style n ids.now))) before

-- and the values of each
abbrev pub text_values : Option (Bor (List ℕ)) → List Given
text_values None = []
text_values (Some text) = Text text ∷ []

abbrev pub number_values : Option ℕ → List Given
number_values None = []
number_values (Some number) = Number number ∷ []

abbrev pub list_values : Option (Bor (List Given)) → List Given
list_values None = []
list_values (Some values) = values.now

abbrev pub count : {X : Type 0} → Option X → ℕ
count None = 0
count (Some x) = 1

-- the titles of such books: no value is in here, but which ones are given, and how many ids
abbrev pub asked : Style → ℕ → Wanted → Made
asked style n wanted =
    of_ids style (n + count wanted.title + count wanted.mask + count wanted.least + count wanted.most) wanted.ids
    (to_price style (n + count wanted.title + count wanted.mask + count wanted.least) wanted.most
    (from_price style (n + count wanted.title + count wanted.mask) wanted.least
    (like_mask style (n + count wanted.title) wanted.mask
    (of_title style n wanted.title (adding (Field (codes "title")) (beginning (SelectFrom (codes "books"))))))))

-- the values behind those that were there
abbrev pub with_values : List Given → Wanted → List Given
with_values before wanted =
    before ++ text_values wanted.title ++ text_values wanted.mask ++ number_values wanted.least ++ number_values wanted.most ++ list_values wanted.ids
