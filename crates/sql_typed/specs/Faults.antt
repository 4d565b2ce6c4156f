-- Which statements aren't printed, and why.
use Rattle.std.specs.Prelude.{◌≡◌, ℕ, ◌++◌, ◌&&◌, ◌||◌, ◌⊎◌, Bool, true, false, not, if◌then◌else◌, List, [], ◌∷◌, Option, None, Some, Result, Err, IfErr, codes, is_some, nat_eq, option_map}
use Rattle.std.specs.List.{ends_with, list_any}
use Rattle.std.specs.Str.{bytes_eq}
use Rattle.sql_parts.specs.Error as builder
use Rattle.sql_parts.specs.Fragments.{operand}
use Rattle.sql_parts.specs.Violations.{violation_text}
use Rattle.sql_parts.specs.declared.error.SqlBuilderError.{SqlBuilderError}
use Rattle.sql_builder.specs.Calls as call
use Rattle.sql_builder.specs.Calls.{CallText, FinishText, StartText, is_join, returning_in}
use Rattle.sql_builder.specs.Combined.{constant_text, negation_text}
use Rattle.sql_builder.specs.declared.condition.Condition.TheVariants.{Raw}
use Rattle.sql_builder.specs.Statement.{error_at}
use Rattle.sql_builder.specs.StatementLaws.{made_by}
use Rattle.sql_typed.specs.Filled as template
use Rattle.sql_typed.specs.Fits.{Made}
use Rattle.sql_typed.specs.declared.error.Error.{Error}
use Rattle.sql_typed.specs.declared.error.Error.TheVariants.{Builder, Violation, Template, NoCondition, NoJoin, OrderBesideUnion, ReturningFirst}

-- the message of an error
abbrev pub message_text : Error → List ℕ
message_text (Builder error) = builder.message_text error
message_text (Violation violation) = violation_text violation
message_text (Template error) = template.message_text error
message_text NoCondition = codes "No condition: say all_rows where every row is meant"
message_text NoJoin = codes "A constraint before the first join"
message_text OrderBesideUnion = codes "An ORDER BY beside a union"
message_text ReturningFirst = codes "A RETURNING before a clause"

-- a statement that changes the rows of a table
abbrev pub changes_rows : StartText → Bool
changes_rows (call.UpdateTable table) = true
changes_rows (call.DeleteFrom table) = true
changes_rows _ = false

-- an operand that is like this mask
abbrev pub is_like : List ℕ → List ℕ → Bool
is_like mask condition =
    ends_with nat_eq condition (codes " LIKE " ++ mask) && not (ends_with nat_eq condition (codes " NOT LIKE " ++ mask)) && operand condition

-- masks of an empty word, which any text is like
abbrev pub empty_masks : List (List ℕ)
empty_masks = codes "'%'" ∷ codes "'%%'" ∷ codes "'%' ESCAPE '!'" ∷ codes "'%%' ESCAPE '!'" ∷ []

-- A condition of an empty list or word that every row meets: `1 = 1`, the NOT of `1 = 0`, or LIKE of an empty word, which a row meets
-- whose operand isn't NULL.
unfoldable pub selects_every_row : List ℕ → Bool
selects_every_row condition = bytes_eq condition (constant_text true) || bytes_eq condition (negation_text (constant_text false))
    || list_any (λ mask. is_like mask condition) empty_masks

-- a call that adds any other condition of WHERE
abbrev pub is_filter : CallText → Bool
is_filter (call.Cond family (Raw condition)) = not (selects_every_row condition)
is_filter (call.Cond family condition) = true
is_filter _ = false

-- a call that adds a constraint of a join
abbrev pub is_constraint : CallText → Bool
is_constraint (call.On constraint) = true
is_constraint (call.OnEq left right) = true
is_constraint _ = false

-- a call that adds a union
abbrev pub is_union : CallText → Bool
is_union (call.Union query) = true
is_union (call.UnionAll query) = true
is_union _ = false

-- a call that adds a field of ORDER BY
abbrev pub is_order : CallText → Bool
is_order (call.OrderBy field descending) = true
is_order (call.OrderAsc field) = true
is_order (call.OrderDesc field) = true
is_order _ = false

-- a call that says what is returned
abbrev pub is_returning : CallText → Bool
is_returning c = is_some (returning_in c)

-- a statement that has a filter, or needs none: all rows are meant, or none are changed
abbrev pub is_filtered : Made → Bool
is_filtered made = (made.all_rows || not (changes_rows made.start)) || list_any is_filter made.calls

-- a constraint of a join before the first join
abbrev pub has_early_constraint : List CallText → Bool
has_early_constraint [] = false
has_early_constraint (c ∷ calls) = is_constraint c || (not (is_join c) && has_early_constraint calls)

-- Why a statement isn't printed, whatever the builder says: an UPDATE or a DELETE without a filter, where no call says that all rows are
-- meant; a constraint before the first join; an ORDER BY beside a union.
abbrev pub fault_of : Made → Option Error
fault_of made = if not (is_filtered made) then Some NoCondition
    else if has_early_constraint made.calls then Some NoJoin
    else if list_any is_union made.calls && list_any is_order made.calls then Some OrderBesideUnion else None

-- nor can a clause follow what has a RETURNING
abbrev pub following_fault_of : Made → Option Error
following_fault_of made = if list_any is_returning made.calls then Some ReturningFirst else fault_of made

-- memory ran out
abbrev pub IsMemory : Error → Type 0
IsMemory (Builder error) = builder.IsMemory error
IsMemory _ = ⊥

-- a call fails with this fault where there is one, else with this error of the builder, and else only if memory runs out
abbrev pub FailsBy : {T : Type 0} → Option Error → Option SqlBuilderError → Result T Error → Type 0
FailsBy (Some fault) error result = result ≡ Err fault
FailsBy None (Some error) result = result ≡ Err (Builder error)
FailsBy None None result = IfErr result IsMemory

-- the same, where memory may run out before the builder is asked
abbrev pub MayFailBy : {T : Type 0} → Option Error → Option SqlBuilderError → Result T Error → Type 0
MayFailBy (Some fault) error result = result ≡ Err fault
MayFailBy None error result = IfErr result (λ e. IsMemory e ⊎ (option_map Builder error ≡ Some e))

-- printing fails with the fault of the statement where it has one, then with the error of the calls, and else only if memory runs out
abbrev pub FailsAs : {T : Type 0} → Made → FinishText → Result T Error → Type 0
FailsAs made finish result = FailsBy (fault_of made) (error_at finish (made_by made.start made.calls)) result
