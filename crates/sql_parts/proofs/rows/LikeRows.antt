-- Worked rows of masks: what the definition gives, by computing.
use Rattle.sql_parts.proofs.Imports.{code, ◌≡◌, ◌∷◌, ◌++◌, [], true, false, codes, nat_eq, refl, ends_with}
use Rattle.std.specs.Str.{chars}
use Rattle.sql_parts.specs.{like_escaped, matches}

like_escaped-all : like_escaped (code "!") (codes "50% of_a!") ≡ codes "50!% of!_a!!"
like_escaped-all = refl

matches-run : matches (code "!") (codes "a%c") (codes "abbc") ≡ true
unfolding chars
matches-run = refl

matches-empty_run : matches (code "!") (codes "a%c") (codes "ac") ≡ true
unfolding chars
matches-empty_run = refl

matches-run_not : matches (code "!") (codes "a%c") (codes "abcd") ≡ false
unfolding chars
matches-run_not = refl

matches-one : matches (code "!") (codes "a_c") (codes "abc") ≡ true
unfolding chars
matches-one = refl

matches-one_not_none : matches (code "!") (codes "a_c") (codes "ac") ≡ false
unfolding chars
matches-one_not_none = refl

-- one character of two bytes
matches-one_character : matches (code "!") (codes "a_c") (97 ∷ 195 ∷ 169 ∷ 99 ∷ []) ≡ true
unfolding chars
matches-one_character = refl

matches-two_characters_not : matches (code "!") (codes "a__c") (97 ∷ 195 ∷ 169 ∷ 99 ∷ []) ≡ false
unfolding chars
matches-two_characters_not = refl

matches-escaped : matches (code "!") (codes "50!%") (codes "50%") ≡ true
unfolding chars
matches-escaped = refl

matches-escaped_not : matches (code "!") (codes "50!%") (codes "500") ≡ false
unfolding chars
matches-escaped_not = refl

matches-escaped_letter : matches (code "!") (codes "!a!!") (codes "a!") ≡ true
unfolding chars
matches-escaped_letter = refl

matches-lone_escape : matches (code "!") (codes "a!") (codes "a!") ≡ false
unfolding chars
matches-lone_escape = refl

matches-empty : matches (code "!") [] [] ≡ true
unfolding chars
matches-empty = refl

-- a capital is not its small letter
matches-case : matches (code "!") (codes "A") (codes "a") ≡ false
unfolding chars
matches-case = refl

-- What the laws say of an escape character is false of `%`: with `%` behind, the mask matches no text that goes on.
percent-escape : matches (code "%") (like_escaped (code "%") (codes "a") ++ codes "%") (codes "ab") ≡ false
unfolding chars
percent-escape = refl

-- Nor are they true of bytes that are no text: these have no character, so that with `%` in front they match every text.
no_text : matches (code "!") (codes "%" ++ like_escaped (code "!") (169 ∷ [])) (codes "a") ≡ true
unfolding chars
no_text = refl

no_text-ends : ends_with nat_eq (codes "a") (169 ∷ []) ≡ false
no_text-ends = refl
