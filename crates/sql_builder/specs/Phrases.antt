-- What calls make of the texts that they are given, over any kind of unit A: bytes, or pieces.
use Rattle.std.specs.Prelude.{ℕ, List, ◌++◌, Option, None, Some, Bool, true, false, codes}
use Rattle.sql_parts.specs.Text.{join_with}
use Rattle.sql_builder.specs.declared.clauses.JoinOperator.{JoinOperator}
use Rattle.sql_builder.specs.declared.clauses.JoinOperator.TheVariants.{Left, LeftOuter, Right, RightOuter, Inner, Cross}

-- the words of a join operator
abbrev pub operator_text : Option JoinOperator → List ℕ
operator_text None = codes "JOIN "
operator_text (Some Left) = codes "LEFT JOIN "
operator_text (Some LeftOuter) = codes "LEFT OUTER JOIN "
operator_text (Some Right) = codes "RIGHT JOIN "
operator_text (Some RightOuter) = codes "RIGHT OUTER JOIN "
operator_text (Some Inner) = codes "INNER JOIN "
operator_text (Some Cross) = codes "CROSS JOIN "

-- the words of a join that is NATURAL or not
abbrev pub join_words : Bool → Option JoinOperator → List ℕ
join_words true operator = codes "NATURAL " ++ operator_text operator
join_words false operator = operator_text operator

-- `word` gives the units of a text of the builder's own
module _ {A : Type 0} (word : List ℕ → List A) where
  -- items with commas between them
  abbrev pub comma_list : List (List A) → List A
  comma_list items = join_with (word (codes ", ")) items

  -- an item between brackets
  abbrev pub in_brackets : List A → List A
  in_brackets item = word (codes "(") ++ (item ++ word (codes ")"))

  -- one more table behind a table text
  abbrev pub further_table : List A → List A
  further_table table = word (codes ", ") ++ table

  -- a join with a table
  abbrev pub join : Bool → Option JoinOperator → List A → List A
  join natural operator table = word (join_words natural operator) ++ table

  -- a constraint of a join
  abbrev pub constraint : List A → List A
  constraint condition = word (codes " ON ") ++ condition

  -- left = right
  abbrev pub equation : List A → List A → List A
  equation left right = left ++ (word (codes " = ") ++ right)

  -- the number of a field's values
  abbrev pub count : List A → List A
  count field = word (codes "COUNT(") ++ (field ++ word (codes ")"))

  -- the same under a name
  abbrev pub count_as : List A → List A → List A
  count_as field name = word (codes "COUNT(") ++ (field ++ (word (codes ") AS ") ++ name))

  -- a row of values
  abbrev pub row : List (List A) → List A
  row values = in_brackets (comma_list values)

  -- a field of ORDER BY, which may be descending
  abbrev pub order : Bool → List A → List A
  order true field = field ++ word (codes " DESC")
  order false field = field
