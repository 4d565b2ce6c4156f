-- Worked rows of statements that aren't printed: what the definitions give, by computing.
use Rattle.sql_typed.proofs.Imports.{◌≡◌, ℕ, Bool, false, true, List, [], ◌∷◌, codes, refl, None, Some, list_all, list_any, quoted, Cond, DeleteFrom, InsertInto, Join, On, OnEq, OrderDesc, Returning, ReturningId, SelectFrom, Union}
use Rattle.sql_typed.proofs.Imports.{UpdateTable, constant_text, like_text, negation_text, Like, Raw, condition_bytes, Any, Left, Right, escaped_mask, fault_of, following_fault_of, adding, beginning, meaning_all_rows, NoCondition, NoJoin}
use Rattle.sql_typed.proofs.Imports.{OrderBesideUnion, ReturningFirst}
use Rattle.sql_builder.specs.declared.condition.Family.TheVariants.{And}
use Rattle.sql_builder.specs.declared.condition.Percent.{Percent}
use Rattle.sql_typed.specs.Faults.{selects_every_row}

without_a_condition : (fault_of (beginning (DeleteFrom (codes "t"))) ≡ Some NoCondition)
    × (fault_of (adding ReturningId (beginning (UpdateTable (codes "t")))) ≡ Some NoCondition)
    × (fault_of (adding ReturningId (meaning_all_rows (beginning (UpdateTable (codes "t"))))) ≡ None)
    × (fault_of (beginning (SelectFrom (codes "t"))) ≡ None)
without_a_condition = (refl, refl, refl, refl)

with_a_condition : (fault_of (adding (Cond And (Raw (codes "a"))) (beginning (DeleteFrom (codes "t")))) ≡ None)
    × (fault_of (adding (Cond And (Raw (codes "1 = 1"))) (adding (Cond And (Raw (codes "a"))) (beginning (DeleteFrom (codes "t"))))) ≡ None)
unfolding selects_every_row
with_a_condition = (refl, refl)

-- a constraint before the first join, or behind it; a union with and without an order
joined : (fault_of (adding (Join (codes "u")) (adding (On (codes "a")) (beginning (SelectFrom (codes "t"))))) ≡ Some NoJoin)
    × (fault_of (adding (OnEq (codes "a") (codes "b")) (adding (Join (codes "u")) (beginning (SelectFrom (codes "t"))))) ≡ None)
    × (fault_of (adding (Union (codes "SELECT 1")) (beginning (SelectFrom (codes "t")))) ≡ None)
    × (fault_of (adding (OrderDesc (codes "a")) (adding (Union (codes "SELECT 1")) (beginning (SelectFrom (codes "t"))))) ≡ Some OrderBesideUnion)
    × (following_fault_of (adding (Returning (codes "id")) (beginning (InsertInto (codes "t")))) ≡ Some ReturningFirst)
joined = (refl, refl, refl, refl, refl)

-- ---- conditions of an empty list or word

abbrev matching : Bool → Percent → List ℕ → List ℕ
matching negated percent word = like_text negated (codes "lower(a)") (quoted (escaped_mask percent word))

every_row : (list_all selects_every_row
    (constant_text true ∷ negation_text (constant_text false) ∷ matching false Any [] ∷ matching false Left []
    ∷ condition_bytes (Like false Right (codes "a") []) ∷ []) ≡ true)
    × (list_any selects_every_row
    (constant_text false ∷ matching false Any (codes "b") ∷ matching true Any [] ∷ codes "a AND b LIKE '%'" ∷ []) ≡ false)
unfolding selects_every_row
every_row = (refl, refl)
