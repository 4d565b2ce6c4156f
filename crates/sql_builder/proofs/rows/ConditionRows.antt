-- Worked rows of conditions and groups: what the definitions give, by computing.
use Rattle.sql_builder.proofs.Imports.{◌≡◌, [], ◌∷◌, Ok, codes, refl, true, false, Raw, And, Or, Any}
use Rattle.sql_builder.specs.{SelectFrom, Cond, Sql, Like, InList, InQuoted, condition_pieces, condition_bytes, statement}
use Rattle.sql_builder.specs.Pieces as piece

in_no_list : condition_bytes (InList false (codes "a") []) ≡ codes "a IN ()"
in_no_list = refl

like_any_of_a_quote : condition_bytes (Like false Any (codes "t") (codes "50%'")) ≡ codes "t LIKE '%50%''%'"
like_any_of_a_quote = refl

not_in_quoted_of_a_quote : condition_bytes (InQuoted true (codes "a") (codes "x" ∷ codes "it's" ∷ [])) ≡ codes "a NOT IN ('x', 'it''s')"
not_in_quoted_of_a_quote = refl

like_any_in_pieces : condition_pieces (Like false Any (codes "f") (codes "it's"))
    ≡ piece.Raw (codes "f") ∷ piece.Fixed (codes " LIKE ") ∷ piece.Quoted (codes "%it's%") ∷ []
like_any_in_pieces = refl

in_list_in_pieces : condition_pieces (InList false (codes "f") (codes "1" ∷ codes "2" ∷ []))
    ≡ piece.Raw (codes "f") ∷ piece.Fixed (codes " IN (") ∷
    piece.Raw (codes "1") ∷ piece.Fixed (codes ", ") ∷ piece.Raw (codes "2") ∷ piece.Fixed (codes ")") ∷ []
in_list_in_pieces = refl

not_in_quoted_in_pieces : condition_pieces (InQuoted true (codes "f") (codes "1" ∷ codes "it's" ∷ []))
    ≡ piece.Raw (codes "f") ∷ piece.Fixed (codes " NOT IN (") ∷
    piece.Quoted (codes "1") ∷ piece.Fixed (codes ", ") ∷ piece.Quoted (codes "it's") ∷ piece.Fixed (codes ")") ∷ []
not_in_quoted_in_pieces = refl

two_groups_of_three : statement (SelectFrom (codes "t"))
    (Cond And (Raw (codes "a")) ∷
    Cond Or (Raw (codes "b")) ∷
    Cond And (Raw (codes "c")) ∷ []) Sql
    ≡ Ok (codes "SELECT * FROM t WHERE (a OR b) AND (c);")
two_groups_of_three = refl
