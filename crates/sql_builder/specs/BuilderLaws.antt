-- Laws of lists of calls, of clauses and of truth.
use Rattle.std.specs.Prelude.{◌≡◌, ◌&&◌, IfOk, Ok, false, ℕ, Bool, List, [], ◌∷◌, ◌++◌, IsTrue, Option, codes, is_some, map, not, true}
use Rattle.std.specs.List.{list_all}
use Rattle.sql_parts.specs.Fragments.{has_top_level, is_balanced, is_clause_word, is_joining, is_operand, placed}
use Rattle.sql_parts.specs.Quoting.{quoted}
use Rattle.sql_parts.specs.Tokens.{Token, Word, is_empty, tokens}
use Rattle.sql_builder.specs.Builder.{ClauseTexts}
use Rattle.sql_builder.specs.Calls.{CallText, Fields, FinishText, StartText, clauses}
use Rattle.sql_builder.specs.Condition.{ConditionText, condition_bytes, condition_pieces}
use Rattle.sql_builder.specs.Layout.{byte_units, sql}
use Rattle.sql_builder.specs.RawFragments.{has_fit_conditions, has_fit_texts, has_closed_fragments, has_no_semicolons}
use Rattle.sql_builder.specs.Meaning.{HasBalancedFragments, HasFitFragments, IsAtomIfOperands, is_unenclosed}
use Rattle.sql_builder.specs.Phrases.{count_as, equation}
use Rattle.sql_builder.specs.Shape.{EndsInOneSemicolon, KeepsTokens, as_fragments, cond_tokens}
use Rattle.sql_builder.specs.Truths.{Fact, False, True, Truth, Valuation, not3, or3, or_all, is_or, and_all, and3, owns_next, truth}
use Rattle.sql_builder.specs.WhereTokens.{in_brackets, where_tokens}
use Rattle.sql_builder.specs.Reading.{clause_list, read}
use Rattle.sql_builder.specs.Statement.{statement}
use Rattle.sql_builder.specs.Pieces.{Pieces, fixed_piece, quoted_piece, raw_piece}

-- `fields` of a list and then of another is `fields` of the two joined
abbrev pub FieldsJoin : Type 0
FieldsJoin = (start : StartText) (before after : List CallText) (a b : List (List ℕ))
    → clauses start (before ++ Fields a ∷ Fields b ∷ after)
    ≡ clauses start (before ++ Fields (a ++ b) ∷ after)

-- of the calls that give what `given` looks for, only the last counts: any other can be left out
abbrev pub OnlyLastCounts : (CallText → Option Pieces) → Type 0
OnlyLastCounts given = (start : StartText) (before between after : List CallText) (early late : CallText)
    → is_some (given early) ≡ true → is_some (given late) ≡ true
    → clauses start (before ++ early ∷ (between ++ late ∷ after))
    ≡ clauses start (before ++ (between ++ late ∷ after))

-- the tokens of what `sql` prints of a builder end in its only `;`, where the builder's texts are closed and have none
abbrev pub BuildersEndInOneSemicolon : Type 0
BuildersEndInOneSemicolon = (r : ClauseTexts) → IsTrue (has_closed_fragments (sql fixed_piece (as_fragments r)))
    → IsTrue (has_no_semicolons (sql fixed_piece (as_fragments r))) → EndsInOneSemicolon (tokens (sql byte_units r))

-- where its fragments are closed, what each condition prints has the condition's tokens and is closed
abbrev pub ConditionsKeepTokens : Type 0
ConditionsKeepTokens = (condition : ConditionText) → KeepsTokens (condition_pieces condition) (condition_bytes condition)

-- the same of `left = right`
abbrev pub EquationsKeepTokens : Type 0
EquationsKeepTokens = (left right : List ℕ)
    → KeepsTokens (equation fixed_piece (raw_piece left) (raw_piece right)) (equation byte_units left right)

-- the same of `field = 'value'`
abbrev pub QuotedEquationsKeepTokens : Type 0
QuotedEquationsKeepTokens = (field value : List ℕ)
    → KeepsTokens (equation fixed_piece (raw_piece field) (quoted_piece value)) (equation byte_units field (quoted value))

-- the same of `COUNT(field) AS name`
abbrev pub CountsKeepTokens : Type 0
CountsKeepTokens = (field name : List ℕ)
    → KeepsTokens (count_as fixed_piece (raw_piece field) (raw_piece name)) (count_as byte_units field name)

-- each condition whose texts are operands, but a raw one, is an atom
abbrev pub ConditionsAreAtoms : Type 0
ConditionsAreAtoms = (condition : ConditionText) → IsAtomIfOperands condition (cond_tokens condition)

-- the truth of `one OR other`
abbrev pub TruthOfOr : Type 0
TruthOfOr = (facts : Valuation) (one other : List Token) → IsTrue (is_balanced one)
    → truth facts (one ++ Word (codes "OR") ∷ other) ≡ or3 (truth facts one) (truth facts other)

-- the truth of `one AND other`, where neither has a top-level OR, and no BETWEEN of the one owns the AND
abbrev pub TruthOfAnd : Type 0
TruthOfAnd = (facts : Valuation) (one other : List Token) → IsTrue (is_balanced one && not (has_top_level is_or one) && not (owns_next false (placed one)))
    → IsTrue (not (has_top_level is_or other))
    → truth facts (one ++ Word (codes "AND") ∷ other) ≡ and3 (truth facts one) (truth facts other)

-- the truth of `NOT negated`, where what is negated has no top-level OR, AND or BETWEEN
abbrev pub TruthOfNot : Type 0
TruthOfNot = (facts : Valuation) (negated : List Token) → IsTrue (not (has_top_level is_joining negated))
    → truth facts (Word (codes "NOT") ∷ negated) ≡ not3 (truth facts negated)

-- the truth of what is between brackets, where it is balanced and has no top-level clause keyword
abbrev pub TruthOfBrackets : Type 0
TruthOfBrackets = (facts : Valuation) (inner : List Token) → IsTrue (is_balanced inner && not (has_top_level is_clause_word inner))
    → truth facts (in_brackets inner) ≡ truth facts inner

-- a group of conditions: there is one, and each is balanced and has no top-level clause keyword
abbrev pub is_fit_group : List (List Token) → Bool
is_fit_group conditions = not (is_empty conditions) && list_all (λ ts. is_balanced ts && not (has_top_level is_clause_word ts)) conditions

-- the truth of a WHERE: the AND of its groups, each the OR of its conditions
abbrev pub TruthOfWhere : Type 0
TruthOfWhere = (facts : Valuation) (groups : List (List (List Token))) → IsTrue (not (is_empty groups) && list_all is_fit_group groups)
    → truth facts (where_tokens groups) ≡ and_all (map (λ conditions. or_all (map (truth facts) conditions)) groups)

-- what is balanced is an operand without a top-level clause keyword between brackets, whatever it holds
abbrev pub BracketsMakeOperands : Type 0
BracketsMakeOperands = (inner : List Token) → IsTrue (is_balanced inner)
    → IsTrue (is_operand (in_brackets inner) && not (has_top_level is_clause_word (in_brackets inner)))

-- a fact of the atom that this text is
abbrev pub fact : List ℕ → Truth → Fact
fact text value = record { atom = tokens text; value = value }

-- the range is false, the comparison true, and q has this value; nothing is known of p
abbrev pub range_and_case : Truth → Valuation
range_and_case q =
    fact (codes "x BETWEEN 1 AND 2") False ∷ fact (codes "CASE WHEN a OR b THEN c END = 1") True ∷ fact (codes "q") q ∷ []

-- a is false, b and d are true, and nothing is known of c
abbrev pub brackets_and_not : Valuation
brackets_and_not = fact (codes "a") False ∷ fact (codes "b") True ∷ fact (codes "d") True ∷ []

-- a is true and c is false, and nothing is known of b
abbrev pub a_without_c : Valuation
a_without_c = fact (codes "a") True ∷ fact (codes "c") False ∷ []

-- by what is known, the condition of this text has this truth
abbrev pub IsValued : Valuation → List ℕ → Truth → Type 0
IsValued facts text value = truth facts (tokens text) ≡ value

-- what `sql`, `query` and `query_values` print of a list of calls parses back as the clauses that it says
abbrev pub StatementsReadBack : Type 0
StatementsReadBack = (start : StartText) (calls : List CallText) (finish : FinishText)
    → IsTrue (is_unenclosed finish) → HasFitFragments start calls finish
    → IfOk (statement start calls finish) (λ text. clause_list start calls finish ≡ Ok (read (tokens text)))

-- where the raw texts are fit, one by one, so are the fragments that are printed without brackets round all
abbrev pub FitTextsMakeFitFragments : Type 0
FitTextsMakeFitFragments = (start : StartText) (calls : List CallText) (finish : FinishText)
    → IsTrue (is_unenclosed finish) → IsTrue (has_fit_texts start calls finish) → HasFitFragments start calls finish

-- and so are the fragments of each condition by itself
abbrev pub FitTextsMakeFitConditions : Type 0
FitTextsMakeFitConditions = (start : StartText) (calls : List CallText) (finish : FinishText)
    → IsTrue (has_fit_texts start calls finish) → IsTrue (has_fit_conditions calls)

-- and each fragment that is printed is balanced, whatever the finish
abbrev pub FitTextsMakeBalancedFragments : Type 0
FitTextsMakeBalancedFragments = (start : StartText) (calls : List CallText) (finish : FinishText)
    → IsTrue (has_fit_texts start calls finish) → HasBalancedFragments start calls finish
