-- Worked rows of templates with holes: what the definitions give, by computing.
use Rattle.sql_parts.proofs.Imports.{◌≡◌, ℕ, Bool, List, [], ◌∷◌, ◌++◌, codes, false, map, negsuc, refl, replicate, true}
use Rattle.sql_parts.specs.{filled, hole_count, holes_apart, in_hole, literal_text, whole, words, is_typed_fragment, is_typed_operand}

-- its holes stand apart, and it is an operand, a condition
abbrev tests : List ℕ → Bool × Bool × Bool
tests template = (holes_apart template, is_typed_operand template, is_typed_fragment template)

template-rows : map tests (codes "price * ? > ?" ∷ codes "lower(title) = lower(?)" ∷ codes "CAST(? AS date)" ∷ codes "CASE WHEN ? THEN a OR b END"
    ∷ codes "data->>'k' = ?" ∷ codes "?" ∷ codes "a = ? OR b" ∷ codes "a UNION SELECT ?" ∷ [])
    ≡ replicate 6 (true, true, true) ++ (true, false, true) ∷ (true, false, false) ∷ []
template-rows = refl

-- inside of a string, of a name and of a comment, and beside a word, a minus and another `?`
touching-rows : map holes_apart (codes "title = '?'" ∷ codes "title = \" ? \"" ∷ codes "title -- ? \n" ∷ codes "title = N?" ∷ codes "a -?" ∷ codes "a ??" ∷ [])
    ≡ replicate 6 false
touching-rows = refl

count-row : hole_count (codes "price * ? > ?") ≡ 2
count-row = refl

-- as many texts as holes, fewer and more
filled-rows : filled (codes "(a + b)" ∷ codes "'?'" ∷ []) (codes "price * ? > ?") ∷ filled (codes "1" ∷ []) (codes "? = ?")
    ∷ filled (codes "1" ∷ codes "2" ∷ []) (codes "a = ?") ∷ [] ≡ codes "price * (a + b) > '?'" ∷ codes "1 = ?" ∷ codes "a = 1" ∷ []
filled-rows = refl

-- ---- in holes

unit-rows : map in_hole (literal_text (words (codes "a + b")) ∷ codes "NULL" ∷ codes "12" ∷ codes "1.5" ∷ codes "$1" ∷ codes "?12" ∷ codes "price"
    ∷ codes "\"b\".\"a b\"" ∷ codes "(SELECT a)" ∷ codes "*" ∷ [])
    ≡ codes "'a + b'" ∷ codes "NULL" ∷ codes "12" ∷ codes "1.5" ∷ codes "$1" ∷ codes "?12" ∷ codes "price"
    ∷ codes "\"b\".\"a b\"" ∷ codes "(SELECT a)" ∷ codes "*" ∷ []
unit-rows = refl

bracketed-rows : map in_hole (literal_text (whole (negsuc 0)) ∷ codes "a + b" ∷ codes "(a) + (b)" ∷ codes "lower(a)" ∷ codes "a AS b" ∷ [])
    ≡ codes "(-1)" ∷ codes "(a + b)" ∷ codes "((a) + (b))" ∷ codes "(lower(a))" ∷ codes "(a AS b)" ∷ []
bracketed-rows = refl
