-- Queries in brackets as the texts of tables.
use Rattle.std.specs.Prelude.{ℕ, Bool, true, false, not, IfOk, IsTrue, List}
use Rattle.sql_parts.specs.Fragments.{has_clause_word}
use Rattle.sql_builder.specs.Calls.{CallText, FinishText, StartText, Subquery, SubqueryAs}
use Rattle.sql_builder.specs.RawFragments.{has_balanced_fragments, is_fit}
use Rattle.sql_builder.specs.RawTexts.{Bare}
use Rattle.sql_builder.specs.Meaning.{HasBalancedFragments}
use Rattle.sql_builder.specs.Statement.{statement}
use Rattle.sql_builder.specs.Pieces.{Pieces}

-- a finish that prints a query in brackets: alone, or with a name that has no top-level clause keyword
abbrev pub makes_table : FinishText → Bool
makes_table Subquery = true
makes_table (SubqueryAs name) = not (has_clause_word name)
makes_table _ = false

-- where its fragments are balanced, those behind a UNION too, a text is fit as a table
abbrev pub NestsAsTable : FinishText → Pieces → List ℕ → Type 0
NestsAsTable finish printed text = IsTrue (makes_table finish) → IsTrue (has_balanced_fragments printed) → IsTrue (is_fit (Bare text))

-- the same of the statement of a list of calls
abbrev pub SubqueriesNestAsTables : Type 0
SubqueriesNestAsTables = (start : StartText) (calls : List CallText) (finish : FinishText)
    → IsTrue (makes_table finish) → HasBalancedFragments start calls finish
    → IfOk (statement start calls finish) (λ text. IsTrue (is_fit (Bare text)))
