-- Worked rows of texts that are bound in place of others, and of what has to hold for them not to interfere.
use Rattle.sql_parts.proofs.Imports.{code, ◌≡◌, ℕ, List, [], ◌∷◌, codes, true, false, Some, option_map, refl, pos, negsuc}
use Rattle.sql_parts.specs.{bound_places, length_in_tokens, semicolon_count, tokens_but, LiteralValue, null, whole, words, Cycle, First, Replacement, alone, bound}
use Rattle.sql_parts.specs.{listed, apart, Word, Str, Symbol}

-- a text and a number
abbrev with_text : List ℕ → Replacement → LiteralValue
with_text text = listed (words text ∷ whole (pos 1) ∷ [])

places : bound_places (codes "a = ? AND b > ?") (Cycle 2) (with_text (codes "x")) ≡ false ∷ false ∷ true ∷ false ∷ false ∷ false ∷ false ∷ []
places = refl

hostile_text : option_map (tokens_but (false ∷ false ∷ true ∷ [])) (bound (codes "a = ? AND b > ?") (Cycle 2) (with_text (codes "x' OR 1=1; --")))
    ≡ Some (Word (codes "a") ∷ Symbol (code "=") ∷ Str [] ∷ Word (codes "AND") ∷ Word (codes "b") ∷ Symbol (code ">") ∷ Word (codes "1") ∷ [])
hostile_text = refl

-- a string of the template's own is compared with its text
own_string : option_map (tokens_but (bound_places (codes "'x' = ?") First (alone (words [])))) (bound (codes "'x' = ?") First (alone (words (codes "y"))))
    ≡ Some (Str (codes "x") ∷ Symbol (code "=") ∷ Str [] ∷ [])
own_string = refl

-- between quotes a value doesn't stand apart, and its text becomes SQL
not_apart : apart (codes "a = '?'") First ≡ false
not_apart = refl

harmless_between_quotes : option_map semicolon_count (bound (codes "a = '?'") First (alone (words (codes "x")))) ≡ Some 0
harmless_between_quotes = refl

hostile_between_quotes : option_map semicolon_count (bound (codes "a = '?'") First (alone (words (codes "; x")))) ≡ Some 1
hostile_between_quotes = refl

-- a literal of another kind in place of a text may be more tokens, or another
text_for_text : option_map length_in_tokens (bound (codes "a = ?") First (alone (words (codes "-1")))) ≡ Some 3
text_for_text = refl

number_for_text : option_map length_in_tokens (bound (codes "a = ?") First (alone (whole (negsuc 0)))) ≡ Some 4
number_for_text = refl

null_for_text : option_map (tokens_but (false ∷ false ∷ true ∷ [])) (bound (codes "a = ?") First (alone null))
    ≡ Some (Word (codes "a") ∷ Symbol (code "=") ∷ Word (codes "NULL") ∷ [])
null_for_text = refl
