-- Worked rows, what the definitions give by computing; tests run the others (`tests/rows`, and tables of `docs/reference`).
use Rattle.sql_builder.proofs.Imports.{◌≡◌, [], ◌∷◌, ◌++◌, Ok, Err, codes, refl, true, false, NoTableName, NoGroupBy, Raw, And, code, Word, Str, Symbol, Any}
use Rattle.sql_builder.specs.{SelectFrom, UpdateTable, Left, LeftOuter, Right, RightOuter, Inner, Cross, AndTable, Join, Fields, Field, SetTo, SetStr}
use Rattle.sql_builder.specs.{Returning, ReturningId, Having, Sql, Query, clauses, Like, pieces, statement, sql, cond_tokens, shape, has_closed_fragments}
use Rattle.sql_builder.specs.{fixed_piece}
use Rattle.sql_builder.specs.Pieces as piece
use Rattle.sql_builder.specs.Calls as call

having_without_table : statement (SelectFrom []) (Having (codes "a") ∷ []) Sql ≡ Err NoTableName
having_without_table = refl

having_without_table_query : statement (SelectFrom []) (Having (codes "a") ∷ []) Query ≡ Err NoGroupBy
having_without_table_query = refl

every_operator : statement (SelectFrom (codes "t"))
    (Left ∷ Join (codes "a") ∷ LeftOuter ∷ Join (codes "b") ∷ Right ∷ Join (codes "c") ∷ RightOuter
    ∷ Join (codes "d") ∷ Inner ∷ Join (codes "e") ∷ Cross ∷ Join (codes "f") ∷ []) Sql
    ≡ Ok (codes "SELECT * FROM t LEFT JOIN a LEFT OUTER JOIN b RIGHT JOIN c RIGHT OUTER JOIN d"
    ++ codes " INNER JOIN e CROSS JOIN f;")
every_operator = refl

added_fields : statement (SelectFrom (codes "t"))
    (AndTable (codes "u") ∷ Fields (codes "a" ∷ codes "b" ∷ []) ∷ Field (codes "c") ∷ []) Query
    ≡ Ok (codes "SELECT a, b, c FROM t, u")
added_fields = refl

-- which texts are quoted, and which are raw

set_str_in_pieces : pieces (UpdateTable (codes "t"))
    (SetStr (codes "a") (codes "it's") ∷ ReturningId ∷ []) Sql
    ≡ Ok (piece.Fixed (codes "UPDATE ") ∷ piece.Raw (codes "t") ∷
    piece.Fixed (codes " SET ") ∷ piece.Raw (codes "a") ∷ piece.Fixed (codes " = ") ∷ piece.Quoted (codes "it's") ∷
    piece.Fixed (codes " RETURNING ") ∷ piece.Fixed (codes "id") ∷ piece.Fixed (codes ";") ∷ [])
set_str_in_pieces = refl

set_in_pieces : pieces (UpdateTable (codes "t"))
    (SetTo (codes "a") (codes "'b'") ∷ Returning (codes "id") ∷ []) Sql
    ≡ Ok (piece.Fixed (codes "UPDATE ") ∷ piece.Raw (codes "t") ∷
    piece.Fixed (codes " SET ") ∷ piece.Raw (codes "a") ∷ piece.Fixed (codes " = ") ∷ piece.Raw (codes "'b'") ∷
    piece.Fixed (codes " RETURNING ") ∷ piece.Raw (codes "id") ∷ piece.Fixed (codes ";") ∷ [])
set_in_pieces = refl

-- ---- the tokens of pieces

shape-mask : cond_tokens (Like false Any (codes "t") (codes "50%'")) ≡ Word (codes "t") ∷ Word (codes "LIKE") ∷ Str (codes "%50%'%") ∷ []
shape-mask = refl

shape-set_str : shape (call.UpdateTable (codes "t")) (call.SetStr (codes "a") (codes "x'; --") ∷ []) call.Sql
    ≡ Ok (Word (codes "UPDATE") ∷ Word (codes "t") ∷ Word (codes "SET") ∷ Word (codes "a") ∷ Symbol (code "=") ∷ Str (codes "x'; --") ∷ Symbol (code ";") ∷ [])
shape-set_str = refl

closed-fragment : has_closed_fragments (sql fixed_piece (clauses (call.SelectFrom (codes "t")) (call.Cond And (Raw (codes "a = 'b'")) ∷ []))) ≡ true
closed-fragment = refl

open-fragment : has_closed_fragments (sql fixed_piece (clauses (call.SelectFrom (codes "t")) (call.Cond And (Raw (codes "a = 'b")) ∷ []))) ≡ false
open-fragment = refl
