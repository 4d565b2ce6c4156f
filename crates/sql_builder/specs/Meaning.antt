-- What a printed statement means: its clauses, the truth of its WHERE, and that queries serve as fragments.
use Rattle.std.specs.Prelude.{◌≡◌, ℕ, Bool, true, false, not, ◌&&◌, IfOk, IsTrue, List, [], ◌∷◌, codes, map}
use Rattle.sql_parts.specs.Fragments.{balanced, has_clause_word, operand}
use Rattle.sql_parts.specs.Tokens.{Token, tokens}
use Rattle.sql_builder.specs.Builder.{ClauseTexts, with_condition_bytes}
use Rattle.sql_builder.specs.Calls.{CallText, FinishText, StartText, Sql, Query, Subquery, SubqueryAs, groups}
use Rattle.sql_builder.specs.Condition.{ConditionText, condition_bytes, condition_pieces, has_operands}
use Rattle.sql_builder.specs.RawFragments.{has_balanced_fragments, has_fit_fragments, has_fit_groups}
use Rattle.sql_builder.specs.Reading.{piece_clauses, read, clause_bodies}
use Rattle.sql_builder.specs.Shape.{AddsText, cond_tokens}
use Rattle.sql_builder.specs.Statement.{pieces}
use Rattle.sql_builder.specs.Pieces.{Pieces}
use Rattle.sql_builder.specs.Truths.{IsAtom, Truth, Valuation, or_all, and_all, truth}
use Rattle.sql_builder.specs.declared.condition.Family.{Family}
use Rattle.sql_builder.specs.declared.clauses.Kind.{Kind}
use Rattle.sql_builder.specs.declared.clauses.Kind.TheVariants.{SelectFrom, UpdateTable, DeleteFrom}

-- ---- clauses

-- a finish that prints a statement without brackets round it
abbrev pub is_unenclosed : FinishText → Bool
is_unenclosed Subquery = false
is_unenclosed (SubqueryAs name) = false
is_unenclosed _ = true

-- where its fragments before the first UNION are fit, a text parses back as the clauses of these pieces
abbrev pub ReadsBack : Pieces → List ℕ → Type 0
ReadsBack printed text = IsTrue (has_fit_fragments printed) → read (tokens text) ≡ piece_clauses printed

-- each fragment that is printed before the first UNION is fit
abbrev pub HasFitFragments : StartText → List CallText → FinishText → Type 0
HasFitFragments start calls finish = IfOk (pieces start calls finish) (λ printed. IsTrue (has_fit_fragments printed))

-- ---- the truth of WHERE

-- the tokens of the conditions of all calls, group by group
abbrev pub condition_groups : List CallText → List (List (List Token))
condition_groups calls = map (λ group. map cond_tokens (group.0 ∷ group.1)) (groups calls)

-- the tokens of a builder's groups, each as one condition
abbrev pub text_groups : ClauseTexts → List (List (List Token))
text_groups r = map (λ group. tokens group ∷ []) r.groups

-- the statements that have a WHERE, if there is a condition
abbrev pub prints_where : FinishText → Kind → Bool
prints_where Query kind = true
prints_where Sql SelectFrom = true
prints_where Sql UpdateTable = true
prints_where Sql DeleteFrom = true
prints_where _ _ = false

-- one truth, the AND of the groups, each the OR of its conditions; none where there is no condition
abbrev pub where_truths : Valuation → List (List (List Token)) → List Truth
where_truths facts [] = []
where_truths facts (group ∷ groups) = and_all (map (λ conditions. or_all (map (truth facts) conditions)) (group ∷ groups)) ∷ []

-- whatever is known of atoms, the WHERE of a text has the truth of these groups
abbrev pub HasTruthOf : List (List (List Token)) → List ℕ → Type 0
HasTruthOf groups text =
    (facts : Valuation) → map (truth facts) (clause_bodies (codes "WHERE") (read (tokens text))) ≡ where_truths facts groups

-- where the statement has a WHERE, if there is a condition, and fragments and groups are fit, the WHERE of a text
-- has the truth of the groups
abbrev pub HasTruthOfGroups : FinishText → ClauseTexts → Pieces → List ℕ → Type 0
HasTruthOfGroups finish r printed text =
    IsTrue (prints_where finish r.kind) → IsTrue (has_fit_fragments printed) → IsTrue (has_fit_groups r) → HasTruthOf (text_groups r) text

-- ---- nesting

-- what the text of each finish is as a fragment: of a query balanced, and of a subquery an operand without a top-level clause
-- keyword
abbrev pub is_nested : FinishText → List ℕ → Bool
is_nested Query text = balanced text
is_nested Subquery text = operand text && not (has_clause_word text)
is_nested (SubqueryAs name) text = balanced text
is_nested _ text = true

-- where its fragments are balanced, those behind a UNION too, a text is so
abbrev pub Nests : FinishText → Pieces → List ℕ → Type 0
Nests finish printed text = IsTrue (has_balanced_fragments printed) → IsTrue (is_nested finish text)

-- each fragment that is printed is balanced, those behind a UNION too
abbrev pub HasBalancedFragments : StartText → List CallText → FinishText → Type 0
HasBalancedFragments start calls finish = IfOk (pieces start calls finish) (λ printed. IsTrue (has_balanced_fragments printed))

-- ---- conditions

-- where the condition's texts are operands, these tokens are an atom: their truth is what is known of them
abbrev pub IsAtomIfOperands : ConditionText → List Token → Type 0
IsAtomIfOperands condition ts = IsTrue (has_operands condition) → IsAtom ts

-- The new record has this condition added. Where its fragments are closed, what is added has the condition's tokens and is
-- closed; where they are operands, and it is no raw condition, it is an atom.
abbrev pub AddsCondition : Family → ConditionText → ClauseTexts → ClauseTexts → Type 0
AddsCondition family condition old new =
    AddsText (λ added. with_condition_bytes family added old) (condition_bytes condition) (condition_pieces condition) new
    × IsAtomIfOperands condition (tokens (condition_bytes condition))
