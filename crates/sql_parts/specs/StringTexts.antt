-- No interference: tokens that are the same but for the texts of string tokens, and what doesn't depend on these.
use Rattle.std.specs.Prelude.{◌≡◌, ℕ, List, [], ◌∷◌, ◌++◌, Bool, true, false, not, ◌&&◌, ◌||◌, Option, IfSome, IsTrue, flat_map, length, map, option_map}
use Rattle.std.specs.Prelude.{unwrap_or}
use Rattle.std.specs.List.{count_by}
use Rattle.sql_parts.specs.TextLaws.{DifferInTexts}
use Rattle.sql_parts.specs.Literal.{LiteralValue, words}
use Rattle.sql_parts.specs.Templates.{Marks, Resolved, Replacement, bound, listed, looked_up, resolve, apart, literal_tokens}
use Rattle.sql_parts.specs.Tokens.{Token, Str, is_semicolon, tokens}

-- a string token with no text in it, and any other token as it is
abbrev pub blank_token : Token → Token
blank_token (Str text) = Str []
blank_token token = token

-- the tokens, with no text in any string token
abbrev pub blank : List Token → List Token
blank ts = map blank_token ts

-- the tokens of a text, with no text in any string token
abbrev pub outline : List ℕ → List Token
outline text = blank (tokens text)

-- the tokens, with no text in the string tokens at some places: a truth value for each token says whether it is at one
abbrev pub blank_at : List Bool → List Token → List Token
blank_at (true ∷ places) (token ∷ ts) = blank_token token ∷ blank_at places ts
blank_at (false ∷ places) (token ∷ ts) = token ∷ blank_at places ts
blank_at _ ts = ts

-- none of the places of these tokens
abbrev pub nowhere : List Token → List Bool
nowhere ts = map (λ token. false) ts

-- a string token
abbrev pub is_string : Token → Bool
is_string (Str text) = true
is_string token = false

-- there is a truth value for each token, and at each of the places is a string token
abbrev pub are_strings : List Bool → List Token → Bool
are_strings [] [] = true
are_strings (place ∷ places) (token ∷ ts) = (not place || is_string token) && are_strings places ts
are_strings _ _ = false

-- how many tokens a text has, and how many of them are a `;`
abbrev pub length_in_tokens : List ℕ → ℕ
length_in_tokens text = length (tokens text)

abbrev pub semicolon_count : List ℕ → ℕ
semicolon_count text = count_by is_semicolon (tokens text)

-- tokens that are equal when blanked have the same answer
abbrev pub IgnoresStrings : {X : Type 0} → (List Token → X) → Type 0
IgnoresStrings answer = (one other : List Token) → blank one ≡ blank other → answer one ≡ answer other

-- tokens that are equal when blanked at some places are equal when blanked
abbrev pub BlankSomewhere : Type 0
BlankSomewhere = (places : List Bool) (one other : List Token) → blank_at places one ≡ blank_at places other → blank one ≡ blank other

-- ---- binding

-- for each token of a literal's text, whether it is a text that is bound
abbrev pub literal_places : LiteralValue → List Bool
literal_places (words text) = true ∷ []
literal_places literal = nowhere (literal_tokens literal)

-- for each token of a template with these literals in it, whether it is a text that is bound
abbrev pub resolved_places : (Replacement → LiteralValue) → Resolved → List Bool
resolved_places literals resolved =
    nowhere (tokens resolved.0) ++ flat_map (λ part. literal_places (literals part.0) ++ nowhere (tokens part.1)) resolved.1

-- for each token of a bound text, whether it is a text that is bound; nothing where the template can't be bound
abbrev pub bound_places : List ℕ → Marks → (Replacement → LiteralValue) → List Bool
bound_places template marks literals = unwrap_or (option_map (resolved_places literals) (resolve template marks)) []

-- the tokens of a text, blanked at some places
abbrev pub tokens_but : List Bool → List ℕ → List Token
tokens_but places text = blank_at places (tokens text)

-- texts that are bound in place of other texts are at the same places among the tokens
abbrev pub BoundTextsKeepTheirPlaces : Type 0
BoundTextsKeepTheirPlaces = (template : List ℕ) (marks : Marks) (one other : Replacement → LiteralValue) → DifferInTexts one other
    → bound_places template marks one ≡ bound_places template marks other

-- where the values of a template stand apart, texts that are bound in place of other texts leave all other tokens as they are
abbrev pub BoundTextsDoNotInterfere : Type 0
BoundTextsDoNotInterfere = (template : List ℕ) (marks : Marks) (one other : Replacement → LiteralValue)
    → IsTrue (apart template marks) → DifferInTexts one other
    → let places = bound_places template marks one in
    option_map (tokens_but places) (bound template marks one) ≡ option_map (tokens_but places) (bound template marks other)

-- at each of the places is a string token
abbrev pub BoundTextsAreStrings : Type 0
BoundTextsAreStrings = (template : List ℕ) (marks : Marks) (literals : Replacement → LiteralValue) → IsTrue (apart template marks)
    → IfSome (bound template marks literals) (λ text. IsTrue (are_strings (bound_places template marks literals) (tokens text)))

-- the answer is the same then
abbrev pub IgnoresBoundTexts : {X : Type 0} → (List ℕ → X) → Type 0
IgnoresBoundTexts answer = (template : List ℕ) (marks : Marks) (one other : Replacement → LiteralValue)
    → IsTrue (apart template marks) → DifferInTexts one other
    → option_map answer (bound template marks one) ≡ option_map answer (bound template marks other)

-- a literal with no text in it, where it is a text, and any other literal as it is
abbrev pub blank_literal : LiteralValue → LiteralValue
blank_literal (words text) = words []
blank_literal literal = literal

-- arguments of the same kinds in the same places differ in texts
abbrev pub ArgumentsDifferInTexts : Type 0
ArgumentsDifferInTexts = (one other : List LiteralValue) → map blank_literal one ≡ map blank_literal other
    → DifferInTexts (listed one) (listed other)

-- the same of what names are bound to
abbrev pub NamesDifferInTexts : Type 0
NamesDifferInTexts = (one other : List ℕ → Option LiteralValue)
    → ((name : List ℕ) → option_map blank_literal (one name) ≡ option_map blank_literal (other name))
    → DifferInTexts (looked_up one) (looked_up other)
