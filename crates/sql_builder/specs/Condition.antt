-- A condition of WHERE: what it says, what it prints, and what is asked of its texts.
use Rattle.std.specs.Borrow.{Bor}
use Rattle.std.specs.Prelude.{ℕ, List, [], ◌∷◌, ◌++◌, Bool, true, false, ◌&&◌, codes, map, String, Vec, string_bytes}
use Rattle.std.specs.List.{list_all}
use Rattle.sql_parts.specs.Fragments.{balanced, operand}
use Rattle.sql_parts.specs.Quoting.{quoted}
use Rattle.sql_parts.specs.Text.{texts}
use Rattle.sql_builder.specs.RawTexts.{RawText, Bare, Enclosed}
use Rattle.sql_builder.specs.Layout.{byte_units}
use Rattle.sql_builder.specs.Phrases.{comma_list}
use Rattle.sql_builder.specs.Pieces.{Pieces, fixed_piece, quoted_piece, raw_piece}
use Rattle.sql_builder.specs.declared.condition.Condition.{Condition}
pub use Rattle.sql_builder.specs.declared.condition.Condition.TheVariants.{Raw, Compare, Like, IsNull, IsNotNull, InList, InQuoted, InQuery, Between}
use Rattle.sql_builder.specs.declared.condition.Percent.{Percent}
use Rattle.sql_builder.specs.declared.condition.Percent.TheVariants.{Plain, Right, Left, Any}
use Rattle.sql_builder.specs.declared.condition.Relation.{Relation}
use Rattle.sql_builder.specs.declared.condition.Relation.TheVariants.{Eq, Ne, Gt, Ge, Lt, Le}

-- a condition, each text as its bytes
abbrev pub ConditionText : Type 0
ConditionText = Condition (List ℕ) (List (List ℕ))

-- a condition with other texts and lists
abbrev pub map_condition : {S T L M : Type 0} → (S → T) → (L → M) → Condition S L → Condition T M
map_condition text list (Raw condition) = Raw (text condition)
map_condition text list (Compare relation field value) = Compare relation (text field) (text value)
map_condition text list (Like negated percent field mask) = Like negated percent (text field) (text mask)
map_condition text list (IsNull field) = IsNull (text field)
map_condition text list (IsNotNull field) = IsNotNull (text field)
map_condition text list (InList negated field values) = InList negated (text field) (list values)
map_condition text list (InQuoted negated field values) = InQuoted negated (text field) (list values)
map_condition text list (InQuery negated field query) = InQuery negated (text field) (text query)
map_condition text list (Between negated field least greatest) = Between negated (text field) (text least) (text greatest)

-- a condition, its texts as bytes
abbrev pub condition_view : {Z : Type 0} → Condition (String Z) (Vec (String Z) Z) → ConditionText
condition_view condition = map_condition (λ s. string_bytes s) (λ values. texts values.items) condition

-- a borrowed condition, its texts as bytes; `left` gives the texts of a list
abbrev pub borrowed_view : {T : Type 0} → (T → List (List ℕ)) → Condition (Bor (List ℕ)) T → ConditionText
borrowed_view left condition = map_condition (λ text. text.now) left condition

-- the sign of a comparison, with its blanks
abbrev pub relation_text : Relation → List ℕ
relation_text Eq = codes " = "
relation_text Ne = codes " <> "
relation_text Gt = codes " > "
relation_text Ge = codes " >= "
relation_text Lt = codes " < "
relation_text Le = codes " <= "

-- whether a percent sign precedes the mask
abbrev pub has_leading : Percent → Bool
has_leading Plain = false
has_leading Right = true
has_leading Left = false
has_leading Any = true

-- whether a percent sign follows the mask
abbrev pub has_trailing : Percent → Bool
has_trailing Plain = false
has_trailing Right = false
has_trailing Left = true
has_trailing Any = true

-- a percent sign, if there is one
abbrev pub percent_sign : Bool → List ℕ
percent_sign true = codes "%"
percent_sign false = []

-- the mask with its percent signs
abbrev pub mask_text : Percent → List ℕ → List ℕ
mask_text percent mask = percent_sign (has_leading percent) ++ (mask ++ percent_sign (has_trailing percent))

-- NOT, in the NOT form
abbrev pub not_text : Bool → List ℕ
not_text true = codes " NOT"
not_text false = []

-- `word` gives the units of a text of the builder's own, `raw` of a raw text, `quoted` of one between quotes
module _ {A : Type 0} (word raw quoted : List ℕ → List A) where
  -- what a condition prints
  abbrev pub condition_layout : ConditionText → List A
  condition_layout (Raw condition) = raw condition
  condition_layout (Compare relation field value) = raw field ++ (word (relation_text relation) ++ raw value)
  condition_layout (Like negated percent field mask) =
      raw field ++ (word (not_text negated ++ codes " LIKE ") ++ quoted (mask_text percent mask))
  condition_layout (IsNull field) = raw field ++ word (codes " IS NULL")
  condition_layout (IsNotNull field) = raw field ++ word (codes " IS NOT NULL")
  condition_layout (InList negated field values) =
      raw field ++ (word (not_text negated ++ codes " IN (")
      ++ (comma_list word (map raw values) ++ word (codes ")")))
  condition_layout (InQuoted negated field values) =
      raw field ++ (word (not_text negated ++ codes " IN (")
      ++ (comma_list word (map quoted values) ++ word (codes ")")))
  condition_layout (InQuery negated field query) =
      raw field ++ (word (not_text negated ++ codes " IN (") ++ (raw query ++ word (codes ")")))
  condition_layout (Between negated field least greatest) =
      raw field ++ (word (not_text negated ++ codes " BETWEEN ")
      ++ (raw least ++ (word (codes " AND ") ++ raw greatest)))

-- a condition's text
abbrev pub condition_bytes : ConditionText → List ℕ
condition_bytes condition = condition_layout byte_units byte_units quoted condition

-- a condition's pieces
abbrev pub condition_pieces : ConditionText → Pieces
condition_pieces condition = condition_layout fixed_piece raw_piece quoted_piece condition

-- the texts of a condition are operands; of IN the field is, and what is in the brackets is balanced
abbrev pub has_operands : ConditionText → Bool
has_operands (Raw condition) = false
has_operands (Compare relation field value) = operand field && operand value
has_operands (Like negated percent field mask) = operand field
has_operands (IsNull field) = operand field
has_operands (IsNotNull field) = operand field
has_operands (InList negated field values) = operand field && list_all balanced values
has_operands (InQuoted negated field values) = operand field
has_operands (InQuery negated field query) = operand field && balanced query
has_operands (Between negated field least greatest) = operand field && (operand least && operand greatest)

-- the raw texts of a condition
abbrev pub condition_raw_texts : ConditionText → List RawText
condition_raw_texts (Raw condition) = Bare condition ∷ []
condition_raw_texts (Compare relation field value) = Bare field ∷ Bare value ∷ []
condition_raw_texts (Like negated percent field mask) = Bare field ∷ []
condition_raw_texts (IsNull field) = Bare field ∷ []
condition_raw_texts (IsNotNull field) = Bare field ∷ []
condition_raw_texts (InList negated field values) = Bare field ∷ map Enclosed values
condition_raw_texts (InQuoted negated field values) = Bare field ∷ []
condition_raw_texts (InQuery negated field query) = Bare field ∷ Enclosed query ∷ []
condition_raw_texts (Between negated field least greatest) = Bare field ∷ Bare least ∷ Bare greatest ∷ []

-- a condition with no text in what it quotes: the mask of a LIKE, or each value of an IN
abbrev pub blank_condition : ConditionText → ConditionText
blank_condition (Like negated percent field mask) = Like negated percent field []
blank_condition (InQuoted negated field values) = InQuoted negated field (map (λ value. []) values)
blank_condition condition = condition
