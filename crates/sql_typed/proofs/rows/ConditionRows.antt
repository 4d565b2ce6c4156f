-- Worked rows of conditions: what the definitions give, by computing.
use Rattle.sql_typed.proofs.Imports.{◌≡◌, [], ◌∷◌, ◌++◌, codes, refl, true, false, quoted, exists_text, like_text, Any, Left, Right, escaped_mask, list_text}

no_values : list_text true (codes "a") [] ≡ codes "1 = 1"
no_values = refl

one_value : list_text true (codes "a") (codes "'b'" ∷ []) ≡ codes "a NOT IN ('b')"
one_value = refl

one_negative : list_text false (codes "a") (codes "-1" ∷ []) ≡ codes "a IN (-1)"
one_negative = refl

one_placeholder : list_text false (codes "a") (codes "?1" ∷ []) ≡ codes "a IN (?1)"
one_placeholder = refl

one_query : list_text false (codes "a") (codes "(SELECT b FROM t)" ∷ []) ≡ codes "a = ((SELECT b FROM t))"
one_query = refl

not_one_query : list_text true (codes "a") (codes "(SELECT b FROM t)" ∷ []) ≡ codes "a <> ((SELECT b FROM t))"
not_one_query = refl

query_behind_a_comment : list_text false (codes "a") (codes "/**/ (SELECT 1)" ∷ []) ≡ codes "a = (/**/ (SELECT 1))"
query_behind_a_comment = refl

query_behind_a_line : list_text false (codes "a") (codes "--\n(SELECT 1)" ∷ []) ≡ codes "a = (--\n(SELECT 1))"
query_behind_a_line = refl

query_behind_a_hash : list_text false (codes "a") (codes "#\n(SELECT 1)" ∷ []) ≡ codes "a = (#\n(SELECT 1))"
query_behind_a_hash = refl

query_behind_a_form_feed : list_text true (codes "a") ((12 ∷ codes "(SELECT 1)") ∷ []) ≡ codes "a <> (" ++ 12 ∷ codes "(SELECT 1))"
query_behind_a_form_feed = refl

query_and_value : list_text true (codes "a") (codes "(SELECT 1)" ∷ codes "2" ∷ []) ≡ codes "a NOT IN ((SELECT 1), 2)"
query_and_value = refl

mask_by_placeholder : like_text true (codes "a") (codes "$1") ≡ codes "a NOT LIKE $1 ESCAPE '!'"
mask_by_placeholder = refl

mask_by_value : like_text false (codes "a") (quoted (escaped_mask Any (codes "50%'"))) ≡ codes "a LIKE '%50!%''%' ESCAPE '!'"
mask_by_value = refl

starting_mask : escaped_mask Left (codes "a_!") ≡ codes "a!_!!%"
starting_mask = refl

ending_mask : escaped_mask Right (codes "a_!") ≡ codes "%a!_!!"
ending_mask = refl

with_a_row : exists_text false (codes "SELECT 1") ≡ codes "EXISTS (SELECT 1)"
with_a_row = refl

without_a_row : exists_text true (codes "SELECT 1") ≡ codes "NOT EXISTS (SELECT 1)"
without_a_row = refl
