-- Rows of tests of raw texts, and rows that show that their laws need what they ask for.
use Rattle.sql_builder.proofs.Imports.{◌≡◌, [], ◌∷◌, List, None, Ok, Some, codes, false, refl, true, result_map_both, closed, NoGroupBy, NoTableName, Raw, And}
use Rattle.sql_builder.proofs.Imports.{Any, Eq}
use Rattle.sql_builder.specs.Calls as call
use Rattle.sql_builder.specs.{CallText, Compare, Like, call_passes, is_plain, texts_pass, has_closed_fragments, has_no_semicolons, pieces, error_at, made_by}

-- a mask is quoted, and so no text that is tested
mask : call_passes closed (call.Cond And (Like false Any (codes "title") (codes "it's; --"))) ≡ true
mask = refl

mask-plain : call_passes is_plain (call.Cond And (Like false Any (codes "title") (codes "it's; --"))) ≡ true
mask-plain = refl

quoted_semicolon : texts_pass is_plain (call.SelectFrom (codes "t")) (call.Cond And (Compare Eq (codes "a") (codes "';'")) ∷ []) call.Sql ≡ true
quoted_semicolon = refl

-- an open text makes an open fragment, a `;` a fragment with one
abbrev opened : List CallText
opened = call.Limit (codes "1") ∷ call.Cond And (Raw (codes "a = 'b")) ∷ []

open-text : texts_pass closed (call.SelectFrom (codes "t")) opened call.Sql ≡ false
open-text = refl

open-fragment : result_map_both has_closed_fragments (λ e. e) (pieces (call.SelectFrom (codes "t")) opened call.Sql) ≡ Ok false
open-fragment = refl

abbrev ended : List CallText
ended = call.Limit (codes "1; DROP TABLE t") ∷ []

semicolon-text : texts_pass is_plain (call.SelectFrom (codes "t")) ended call.Sql ≡ false
semicolon-text = refl

semicolon-fragment : result_map_both has_no_semicolons (λ e. e) (pieces (call.SelectFrom (codes "t")) ended call.Sql) ≡ Ok false
semicolon-fragment = refl

-- the name of a subquery is a text of the finish
name : texts_pass closed (call.SelectFrom (codes "t")) [] (call.SubqueryAs (codes "'x")) ≡ false
name = refl

-- HAVING needs a GROUP BY, before it or behind it, and a table a name
having : error_at call.Sql (made_by (call.SelectFrom (codes "t")) (call.Having (codes "a > 1") ∷ [])) ≡ Some NoGroupBy
having = refl

having-grouped : error_at call.Sql (made_by (call.SelectFrom (codes "t")) (call.Having (codes "a > 1") ∷ call.GroupBy (codes "a") ∷ [])) ≡ None
having-grouped = refl

nameless : error_at call.Sql (made_by (call.SelectFrom []) []) ≡ Some NoTableName
nameless = refl
