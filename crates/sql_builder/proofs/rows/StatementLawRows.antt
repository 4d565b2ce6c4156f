-- Rows of statements, and rows that show that the laws of statements need what they ask for.
use Rattle.sql_builder.proofs.Imports.{◌≡◌, ◌++◌, [], ◌∷◌, List, Ok, codes, false, length, map, refl, result_map_both, closed, tokens, Raw, And}
use Rattle.sql_builder.specs.Calls as call
use Rattle.sql_builder.specs.{CallText, fact, condition_groups, is_nested, where_truths, read, clause_bodies, shape, statement, text_at, made_by, with_call}
use Rattle.sql_builder.specs.{False, True, Valuation, truth}

-- a SELECT with these conditions
abbrev asked : List CallText
asked = call.Cond And (Raw (codes "a = 'b'")) ∷ call.Cond And (Raw (codes "c")) ∷ []

printed : text_at call.Sql (made_by (call.SelectFrom (codes "t")) asked) ≡ codes "SELECT * FROM t WHERE (a = 'b') AND (c);"
printed = refl

called : with_call (call.Field (codes "a")) (made_by (call.SelectFrom (codes "t")) asked)
    ≡ made_by (call.SelectFrom (codes "t")) (asked ++ call.Field (codes "a") ∷ [])
called = refl

-- a fragment that isn't closed takes the rest of the statement with it, which has fewer tokens than its pieces
abbrev open_text : List CallText
open_text = call.Cond And (Raw (codes "a = 'b")) ∷ []

open-closed : result_map_both closed (λ e. e) (statement (call.SelectFrom (codes "t")) open_text call.Sql) ≡ Ok false
open-closed = refl

open-pieces : result_map_both length (λ e. e) (shape (call.SelectFrom (codes "t")) open_text call.Sql) ≡ Ok 9
open-pieces = refl

open-tokens : result_map_both (λ text. length (tokens text)) (λ e. e) (statement (call.SelectFrom (codes "t")) open_text call.Sql) ≡ Ok 8
open-tokens = refl

-- a condition that isn't balanced makes a query that isn't; and where a is true and c false, its WHERE is true, but an AND
-- with c is false
abbrev uneven : List CallText
uneven = call.Cond And (Raw (codes "a) OR (b")) ∷ call.Cond And (Raw (codes "c")) ∷ []

abbrev a_without_c : Valuation
a_without_c = fact (codes "a") True ∷ fact (codes "c") False ∷ []

uneven-text : statement (call.SelectFrom (codes "t")) uneven call.Query ≡ Ok (codes "SELECT * FROM t WHERE (a) OR (b) AND (c)")
uneven-text = refl

uneven-where : map (truth a_without_c) (clause_bodies (codes "WHERE") (read (tokens (codes "SELECT * FROM t WHERE (a) OR (b) AND (c)")))) ≡ True ∷ []
unfolding read truth
uneven-where = refl

uneven-groups : where_truths a_without_c (condition_groups uneven) ≡ False ∷ []
unfolding truth
uneven-groups = refl

bracket-nests : result_map_both (is_nested call.Query) (λ e. e) (statement (call.SelectFrom (codes "t")) (call.Limit (codes "1)") ∷ []) call.Query)
    ≡ Ok false
bracket-nests = refl
