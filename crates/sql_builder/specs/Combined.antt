-- The texts of conditions that are made of others, and of LIKE with an escape character.
use Rattle.std.specs.Prelude.{◌≡◌, ℕ, IsTrue, List, [], ◌∷◌, ◌++◌, Bool, codes, if◌then◌else◌, map}
use Rattle.std.specs.List.{list_all}
use Rattle.sql_parts.specs.Fragments.{balanced}
use Rattle.sql_parts.specs.Operands.{is_fragment}
use Rattle.sql_parts.specs.Quoting.{quoted}
use Rattle.sql_parts.specs.StringTexts.{outline}
use Rattle.sql_parts.specs.Text.{join_with}
use Rattle.sql_parts.specs.Tokens.{tokens}
use Rattle.sql_builder.specs.Condition.{ConditionText, condition_bytes, condition_pieces, not_text}
use Rattle.sql_builder.specs.Interference.{piece_outline}
use Rattle.sql_builder.specs.Layout.{byte_units}
use Rattle.sql_builder.specs.Phrases.{in_brackets}
use Rattle.sql_builder.specs.RawFragments.{has_closed_fragments}
use Rattle.sql_builder.specs.Truths.{Truth, Valuation, truth}

-- a condition that is true, or false
abbrev pub constant_text : Bool → List ℕ
constant_text holds = if holds then codes "1 = 1" else codes "1 = 0"

-- a field that is like a mask, an operand, in which `!` escapes
abbrev pub like_text : Bool → List ℕ → List ℕ → List ℕ
like_text negated field mask = field ++ ((not_text negated ++ codes " LIKE ") ++ (mask ++ codes " ESCAPE '!'"))

-- conditions, each in brackets, joined by a word, in brackets
abbrev pub joined_text : List ℕ → List (List ℕ) → List ℕ
joined_text word conditions = in_brackets byte_units (join_with word (map (in_brackets byte_units) conditions))

-- the word that joins conditions
abbrev pub joining_text : Bool → List ℕ
joining_text conjunction = if conjunction then codes " AND " else codes " OR "

-- conditions joined by AND, or by OR; of none, true, or false
abbrev pub combined_text : Bool → List (List ℕ) → List ℕ
combined_text conjunction [] = constant_text conjunction
combined_text conjunction (first ∷ further) = joined_text (joining_text conjunction) (first ∷ further)

-- the truth of a text is that of these conditions, where there is one
abbrev pub IsCombined : (List Truth → Truth) → List (List ℕ) → List ℕ → Type 0
IsCombined combining [] text = Unit {0}
IsCombined combining (first ∷ further) text =
    (facts : Valuation) → truth facts (tokens text) ≡ combining (map (λ condition. truth facts (tokens condition)) (first ∷ further))

-- NOT and a condition in brackets
abbrev pub negation_text : List ℕ → List ℕ
negation_text condition = codes "NOT (" ++ (condition ++ codes ")")

-- that a query has a row, or has none
abbrev pub exists_text : Bool → List ℕ → List ℕ
exists_text negated query = (if negated then codes "NOT EXISTS (" else codes "EXISTS (") ++ (query ++ codes ")")

-- ---- texts of strings

-- conditions whose pieces have the same tokens, one by one, but for the texts of strings, and of which the one's fragments are closed,
-- have the same tokens, but for these texts
abbrev pub ConditionsFollowTheirPieces : Type 0
ConditionsFollowTheirPieces = (one other : ConditionText) → map piece_outline (condition_pieces one) ≡ map piece_outline (condition_pieces other)
    → IsTrue (has_closed_fragments (condition_pieces one)) → outline (condition_bytes one) ≡ outline (condition_bytes other)

-- so have a field that is like a mask, whatever is between the mask's quotes,
abbrev pub MasksFollowTheirField : Type 0
MasksFollowTheirField = (negated : Bool) (one other mask other_mask : List ℕ) → outline one ≡ outline other → IsTrue (is_fragment one)
    → outline (like_text negated one (quoted mask)) ≡ outline (like_text negated other (quoted other_mask))

-- conditions that are joined,
abbrev pub CombinedFollowTheirParts : Type 0
CombinedFollowTheirParts = (conjunction : Bool) (one other : List (List ℕ)) → map outline one ≡ map outline other
    → IsTrue (list_all is_fragment one) → outline (combined_text conjunction one) ≡ outline (combined_text conjunction other)

-- the NOT of a condition,
abbrev pub NegationsFollowTheirPart : Type 0
NegationsFollowTheirPart = (one other : List ℕ) → outline one ≡ outline other → IsTrue (is_fragment one)
    → outline (negation_text one) ≡ outline (negation_text other)

-- and that a query has a row
abbrev pub ExistsFollowsItsQuery : Type 0
ExistsFollowsItsQuery = (negated : Bool) (one other : List ℕ) → outline one ≡ outline other → IsTrue (balanced one)
    → outline (exists_text negated one) ≡ outline (exists_text negated other)
