-- Worked rows of texts that are quoted in place of others, and of what has to hold for them not to interfere.
use Rattle.sql_builder.proofs.Imports.{code, ◌≡◌, ℕ, Bool, List, [], ◌∷◌, Ok, codes, false, refl, true, length_in_tokens, outline, semicolon_count, tokens_but}
use Rattle.sql_builder.proofs.Imports.{Word, Str, Symbol, Raw, And, Any, Plain}
use Rattle.sql_builder.specs.{CallText, Cond, SelectFrom, SetStr, Sql, UpdateTable, clauses, InQuoted, Like, DifferInQuotedTexts, answer_of, quoted_places, sql}
use Rattle.sql_builder.specs.{has_closed_fragments, fixed_piece}

-- a text that is set, a mask, and two values, beside a string that the caller wrote
abbrev quoting : List ℕ → List CallText
quoting text =
    SetStr (codes "a") text ∷ Cond And (Like true Any (codes "b") text) ∷ Cond And (InQuoted false (codes "c") (text ∷ [] ∷ []))
    ∷ Cond And (Raw (codes "d = 'e'")) ∷ []

only_in_texts : DifferInQuotedTexts (quoting (codes "x")) (quoting (codes "y', b = 'z"))
only_in_texts = refl

-- UPDATE t SET a = '' WHERE ( b NOT LIKE '' ) AND ( c IN ( '' , '' ) ) AND ( d = 'e' ) ;
abbrev places : List Bool
places =
    false ∷ false ∷ false ∷ false ∷ false ∷ true ∷ false
    ∷ false ∷ false ∷ false ∷ false ∷ true ∷ false
    ∷ false ∷ false ∷ false ∷ false ∷ false ∷ true ∷ false ∷ true ∷ false ∷ false
    ∷ false ∷ false ∷ false ∷ false ∷ false ∷ false ∷ false ∷ []

places_of_texts : quoted_places (UpdateTable (codes "t")) (quoting (codes "x")) Sql ≡ places
places_of_texts = refl

hostile_texts : answer_of (tokens_but places) (UpdateTable (codes "t")) (quoting (codes "y', b = 'z")) Sql
    ≡ answer_of (tokens_but places) (UpdateTable (codes "t")) (quoting []) Sql
hostile_texts = refl

-- the string that the caller wrote is compared with its text
abbrev with_string : List CallText
with_string = Cond And (Raw (codes "d = 'e'")) ∷ []

own_string : answer_of (tokens_but (quoted_places (SelectFrom (codes "t")) with_string Sql)) (SelectFrom (codes "t")) with_string Sql
    ≡ Ok (Word (codes "SELECT") ∷ Symbol (code "*") ∷ Word (codes "FROM") ∷ Word (codes "t") ∷ Word (codes "WHERE") ∷ Word (codes "d") ∷ Symbol (code "=")
    ∷ Str (codes "e") ∷ Symbol (code ";") ∷ [])
own_string = refl

-- behind a fragment that isn't closed a quoted text becomes SQL
abbrev after_a_quote : List ℕ → List CallText
after_a_quote text = Cond And (Raw (codes "a = '")) ∷ Cond And (Like false Plain (codes "b") text) ∷ []

only_in_the_mask : DifferInQuotedTexts (after_a_quote (codes "x")) (after_a_quote (codes "; x"))
only_in_the_mask = refl

open_fragment : has_closed_fragments (sql fixed_piece (clauses (SelectFrom (codes "t")) (after_a_quote (codes "x")))) ≡ false
open_fragment = refl

harmless_after_a_quote : answer_of semicolon_count (SelectFrom (codes "t")) (after_a_quote (codes "x")) Sql ≡ Ok 0
harmless_after_a_quote = refl

hostile_after_a_quote : answer_of semicolon_count (SelectFrom (codes "t")) (after_a_quote (codes "; x")) Sql ≡ Ok 1
hostile_after_a_quote = refl

-- one more value is one more token, and two
one_value : answer_of length_in_tokens (SelectFrom (codes "t")) (Cond And (InQuoted false (codes "c") ([] ∷ [])) ∷ []) Sql ≡ Ok 11
one_value = refl

two_values : answer_of length_in_tokens (SelectFrom (codes "t")) (Cond And (InQuoted false (codes "c") ([] ∷ [] ∷ [])) ∷ []) Sql ≡ Ok 13
two_values = refl

-- texts whose strings differ have the same outline
same_outline : outline (codes "a = 'b) OR (c'") ≡ outline (codes "a = ''")
same_outline = refl
