-- What the steps of the calls do. A constant says which clause is meant.
use Rattle.std.specs.Prelude.{◌≡◌, ℕ, List, [], ◌∷◌, Bool, true, false, Result, Ok, Err}
use Rattle.sql_parts.specs.Error.{IsMemory}
use Rattle.sql_parts.specs.declared.error.SqlBuilderError.{SqlBuilderError}
use Rattle.sql_builder.specs.Builder.{ClauseTexts, with_fields, with_on, with_set}
use Rattle.sql_builder.specs.Layout.{byte_units}
use Rattle.sql_builder.specs.Phrases.{count_as, equation}
use Rattle.sql_parts.specs.Quoting.{quoted}
use Rattle.sql_builder.specs.Condition.{ConditionText}
use Rattle.sql_builder.specs.Meaning.{AddsCondition}
use Rattle.sql_builder.specs.Shape.{AddsText}
use Rattle.sql_builder.specs.declared.condition.Family.{Family}
use Rattle.sql_builder.specs.Pieces.{fixed_piece, quoted_piece, raw_piece}
use Rattle.sql_builder.specs.declared.where_calls.Polarity.{Polarity}
use Rattle.sql_builder.specs.declared.where_calls.Polarity.TheVariants.{Plain, Negated}
use Rattle.sql_builder.specs.declared.steps.BinaryClause.{BinaryClause}
use Rattle.sql_builder.specs.declared.steps.BinaryClause.TheVariants as binary

-- a call with two texts adds this text, with its tokens, where its fragments are closed; without a join `on_eq` adds nothing
abbrev pub AddsBinary : BinaryClause → List ℕ → List ℕ → ClauseTexts → ClauseTexts → Type 0
AddsBinary binary.OnEq left right old =
    AddsText (λ added. with_on added old) (equation byte_units left right)
    (equation fixed_piece (raw_piece left) (raw_piece right))
AddsBinary binary.CountAs field name old =
    AddsText (λ added. with_fields (added ∷ []) old) (count_as byte_units field name)
    (count_as fixed_piece (raw_piece field) (raw_piece name))
AddsBinary binary.SetTo field value old =
    AddsText (λ added. with_set added old) (equation byte_units field value)
    (equation fixed_piece (raw_piece field) (raw_piece value))
AddsBinary binary.SetStr field value old =
    AddsText (λ added. with_set added old) (equation byte_units field (quoted value))
    (equation fixed_piece (raw_piece field) (quoted_piece value))

-- a step changes the builder so, or runs out of memory and leaves it as it was
abbrev pub Applies : Result (Unit {0}) SqlBuilderError → ClauseTexts → ClauseTexts → (ClauseTexts → ClauseTexts)
    → Type 0
Applies (Ok done) old new change = new ≡ change old
Applies (Err error) old new change = IsMemory error × (new ≡ old)

-- `AddsCondition` as a word that does not unfold by itself, so that the condition stays one term in proofs
unfoldable pub StepAddsCondition : Family → ConditionText → ClauseTexts → ClauseTexts → Type 0
StepAddsCondition family condition old new = AddsCondition family condition old new

-- whether a condition is the NOT form
abbrev pub is_negated : Polarity → Bool
is_negated Plain = false
is_negated Negated = true
