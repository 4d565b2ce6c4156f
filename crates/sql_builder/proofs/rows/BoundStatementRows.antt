-- Worked rows of values that are bound to a statement, or beside it: what the definitions give, by computing.
use Rattle.sql_builder.proofs.Imports.{◌≡◌, List, [], ◌∷◌, ◌++◌, Ok, Some, codes, map, pos, refl, true, LiteralValue, whole, words, with_values, Nums, Replacement}
use Rattle.sql_builder.proofs.Imports.{bound, listed, And, Eq}
use Rattle.sql_parts.specs.declared.parameter.Style.TheVariants.{Question, Dollar}
use Rattle.sql_builder.specs.{placeholders, call_with_values, pieces_with_values, start_with_values, CallText, Cond, GroupBy, Having, SelectFrom, Sql}
use Rattle.sql_builder.specs.{combined_text, exists_text, like_text, negation_text, Compare, fixed_piece, quoted_piece, raw_piece, statement, text_at, made_by}

placeholders-two : placeholders Dollar (codes "ab") ≡ (record { style = Dollar; number = 1 }) ∷ (record { style = Dollar; number = 2 }) ∷ []
placeholders-two = refl

placeholders-other : placeholders Question (codes "ab") ≡ placeholders Question (codes "'\\")
placeholders-other = refl

placeholders-of_texts : placeholders Question (codes "ab") ≡ placeholders Question (codes "it's" ∷ [] ∷ [])
placeholders-of_texts = refl

abbrev values : Replacement → LiteralValue
values = listed (words (codes "it's") ∷ whole (pos 7) ∷ [])

with_values-two : with_values 2 values (codes "a = $1 AND b = $2") ≡ codes "a = 'it''s' AND b = 7"
with_values-two = refl

with_values-two_digits : with_values 2 values (codes "$1,$12") ≡ codes "'it''s',"
with_values-two_digits = refl

combined-with_values : with_values 2 values (combined_text true (codes "a = $2" ∷ codes "b" ∷ [])) ≡ codes "((a = 7) AND (b))"
combined-with_values = refl

negation-with_values : with_values 2 values (negation_text (codes "a = $2")) ≡ codes "NOT (a = 7)"
negation-with_values = refl

exists-with_values : with_values 2 values (exists_text true (codes "SELECT $1")) ≡ codes "NOT EXISTS (SELECT 'it''s')"
exists-with_values = refl

like-with_values : with_values 2 values (like_text true (codes "a") (codes "$1")) ≡ codes "a NOT LIKE 'it''s' ESCAPE '!'"
like-with_values = refl

pieces-quoted : pieces_with_values 2 values (raw_piece (codes "a$2") ++ (fixed_piece (codes " = ") ++ quoted_piece (codes "$2"))) ≡ codes "a7 = '7'"
pieces-quoted = refl

abbrev calls : List CallText
calls = Cond And (Compare Eq (codes "a") (codes "$2")) ∷ GroupBy (codes "b") ∷ Having (codes "c > $1") ∷ []

statement-numbered : statement (SelectFrom (codes "t")) calls Sql ≡ Ok (codes "SELECT * FROM t WHERE a = $2 GROUP BY b HAVING c > $1;")
statement-numbered = refl

statement-bound : bound (codes "SELECT * FROM t WHERE a = $2 GROUP BY b HAVING c > $1;") (Nums 2) values
    ≡ Some (codes "SELECT * FROM t WHERE a = 7 GROUP BY b HAVING c > 'it''s';")
statement-bound = refl

statement-with_values : text_at Sql (made_by (start_with_values 2 values (SelectFrom (codes "t"))) (map (call_with_values 2 values) calls))
    ≡ codes "SELECT * FROM t WHERE a = 7 GROUP BY b HAVING c > 'it''s';"
statement-with_values = refl
