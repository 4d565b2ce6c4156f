-- The texts of conditions on a field that have no call of the builder's.
use Rattle.std.specs.Prelude.{ℕ, ◌++◌, ◌||◌, IsTrue, List, [], ◌∷◌, Bool, false, Option, None, Some, codes, if◌then◌else◌, nat_eq}
use Rattle.std.specs.List.{list_all, starts_with}
use Rattle.sql_parts.specs.Fragments.{balanced}
use Rattle.sql_parts.specs.Like.{like_escaped}
use Rattle.sql_parts.specs.Operands.{ServesAsOperand}
use Rattle.sql_parts.specs.Tokens.{begins_with, is_one_of}
use Rattle.sql_builder.specs.Combined.{constant_text}
use Rattle.sql_builder.specs.Condition.{ConditionText, condition_bytes, mask_text}
use Rattle.sql_builder.specs.declared.condition.Condition.TheVariants.{Between, Compare, InList, InQuery, IsNotNull, IsNull, Like}
use Rattle.sql_builder.specs.Layout.{byte_units}
use Rattle.sql_builder.specs.Phrases.{in_brackets}
use Rattle.sql_builder.specs.declared.condition.Percent.{Percent}
use Rattle.sql_builder.specs.declared.condition.Relation.{Relation}
use Rattle.sql_builder.specs.declared.condition.Relation.TheVariants.{Eq, Ne}

-- `(`, and what databases skip before it: blanks, with the vertical TAB and the form feed, and what begins a comment
abbrev pub bracket_fronts : List ℕ
bracket_fronts = codes "( \t\n\r/#" ++ 11 ∷ 12 ∷ []

-- a text may begin with `(`, behind blanks or a comment
abbrev pub may_begin_bracketed : List ℕ → Bool
may_begin_bracketed text = begins_with (is_one_of bracket_fronts) text || starts_with nat_eq text (codes "--")

-- equal, or not
abbrev pub equality : Bool → Relation
equality negated = if negated then Ne else Eq

-- a field that is one of these values; of no values, false. A value alone that may be a query in brackets is compared with, since
-- some databases read `IN ((query))` as `IN (query)`.
abbrev pub list_text : Bool → List ℕ → List (List ℕ) → List ℕ
list_text negated field [] = constant_text negated
list_text negated field (value ∷ []) =
    condition_bytes (if may_begin_bracketed value then Compare (equality negated) field (in_brackets byte_units value) else InList negated field (value ∷ []))
list_text negated field (value ∷ next ∷ values) = condition_bytes (InList negated field (value ∷ next ∷ values))

-- a field that has this value; without a value, it is NULL
abbrev pub equal_or_null : List ℕ → Option (List ℕ) → List ℕ
equal_or_null field None = condition_bytes (IsNull field)
equal_or_null field (Some value) = condition_bytes (Compare Eq field value)

-- a text as a mask of LIKE with percent signs: `!` is before each wildcard and each `!` of the text
abbrev pub escaped_mask : Percent → List ℕ → List ℕ
escaped_mask percent text = mask_text percent (like_escaped 33 text)

-- The texts of a condition serve as operands; of IN the field does, and what is in the brackets is balanced.
abbrev pub OperandsServe : ConditionText → Type 0
OperandsServe (Compare relation field value) = ServesAsOperand field × ServesAsOperand value
OperandsServe (Like negated percent field mask) = ServesAsOperand field
OperandsServe (IsNull field) = ServesAsOperand field
OperandsServe (IsNotNull field) = ServesAsOperand field
OperandsServe (InList negated field values) = ServesAsOperand field × IsTrue (list_all balanced values)
OperandsServe (InQuery negated field query) = ServesAsOperand field × IsTrue (balanced query)
OperandsServe (Between negated field least greatest) = ServesAsOperand field × ServesAsOperand least × ServesAsOperand greatest
OperandsServe _ = IsTrue false
