-- The truth of a condition, in SQL's three values, read off its tokens.
use Prim.Native.Char.{code}
use Rattle.std.specs.Prelude.{◌≡◌, ℕ, zero, suc, Bool, true, false, not, ◌&&◌, ◌||◌, ◌==◌, if◌then◌else◌, List, [], ◌∷◌, map, length, drop, pos, int_le, codes}
use Rattle.std.specs.List.{list_all, list_any}
use Rattle.std.specs.Str.{bytes_eq}
use Rattle.sql_parts.specs.Fragments.{Placed, TopLevel, Nested, any_token, has_top_level, is_clause_word, at_top_level, is_symbol, is_word, depth_at}
use Rattle.sql_parts.specs.Fragments.{placed, places}
use Rattle.sql_parts.specs.Tokens.{Token, Word, Str, Name, Symbol, Open, begins_with, ends_with}
use Rattle.sql_builder.specs.TokenParts.{but_last, parts_between}

-- A truth value.
pub data Truth : Type 0 where
  False Unknown True : Truth

-- AND: the first in the order False, Unknown, True
abbrev pub and3 : Truth → Truth → Truth
and3 False y = False
and3 True y = y
and3 Unknown False = False
and3 Unknown Unknown = Unknown
and3 Unknown True = Unknown

-- OR: the last in that order
abbrev pub or3 : Truth → Truth → Truth
or3 True y = True
or3 False y = y
or3 Unknown True = True
or3 Unknown Unknown = Unknown
or3 Unknown False = Unknown

-- the AND of several, which is True of none
abbrev pub and_all : List Truth → Truth
and_all [] = True
and_all (x ∷ xs) = and3 x (and_all xs)

-- the OR of several, which is False of none
abbrev pub or_all : List Truth → Truth
or_all [] = False
or_all (x ∷ xs) = or3 x (or_all xs)

-- NOT
abbrev pub not3 : Truth → Truth
not3 False = True
not3 Unknown = Unknown
not3 True = False

-- the same token, letter by letter
abbrev pub same_token : Token → Token → Bool
same_token (Word one) (Word other) = bytes_eq one other
same_token (Str one) (Str other) = bytes_eq one other
same_token (Name one) (Name other) = bytes_eq one other
same_token (Symbol one) (Symbol other) = one == other
same_token Open Open = true
same_token _ _ = false

-- the same tokens
abbrev pub same_tokens : List Token → List Token → Bool
same_tokens [] [] = true
same_tokens (one ∷ ts) (other ∷ us) = same_token one other && same_tokens ts us
same_tokens _ _ = false

-- What is known of the truth of these tokens.
pub record Fact : Type 0 where
  pub atom : List Token
  pub value : Truth

-- A valuation: a finite map from lists of tokens to truth values.
abbrev pub Valuation : Type 0
Valuation = List Fact

-- the value of some tokens: that of their first entry, and Unknown without one
abbrev pub value_in : Valuation → List Token → Truth
value_in [] ts = Unknown
value_in (fact ∷ facts) ts = if same_tokens fact.atom ts then fact.value else value_in facts ts

-- the word OR
abbrev pub is_or : Token → Bool
is_or token = is_word (codes "OR") token

-- the word AND
abbrev pub is_and : Token → Bool
is_and token = is_word (codes "AND") token

-- the word NOT
abbrev pub is_not : Token → Bool
is_not token = is_word (codes "NOT") token

-- the word BETWEEN
abbrev pub is_between : Token → Bool
is_between token = is_word (codes "BETWEEN") token

-- whether the last top-level word among BETWEEN, AND and OR is BETWEEN, behind one more
abbrev pub is_between_last : Bool → Token → Bool
is_between_last owned token = if is_between token then true else (if is_and token || is_or token then false else owned)

-- The tokens, with each AND made inner that a BETWEEN owns: the last top-level word before it among BETWEEN, AND and OR is
-- BETWEEN. `owned` says whether it is, so far.
abbrev pub without_owned : Bool → List Placed → List Placed
without_owned owned [] = []
without_owned owned (Nested token ∷ more) = Nested token ∷ without_owned owned more
without_owned owned (TopLevel token ∷ more) =
    (if owned && is_and token then Nested token else TopLevel token) ∷ without_owned (is_between_last owned token) more

-- whether a BETWEEN would own a top-level AND behind these tokens
abbrev pub owns_next : Bool → List Placed → Bool
owns_next owned [] = owned
owns_next owned (Nested token ∷ more) = owns_next owned more
owns_next owned (TopLevel token ∷ more) = owns_next (is_between_last owned token) more

-- the nesting depth is at least 1 after each token
abbrev pub is_inside : List Token → Bool
is_inside ts = list_all (λ place. int_le (pos 1) (depth_at ts (suc place))) (places any_token ts)

-- what is between the first token and the last
abbrev pub inside : List Token → List Token
inside ts = but_last (drop 1 ts)

-- `(`, an inside and `)`: the nesting depth is at least 1 after each token but the last, and the inside by itself has no
-- top-level clause keyword, so that it is no query
abbrev pub is_bracketed : List Token → Bool
is_bracketed ts =
    begins_with (is_symbol (code "(")) ts && ends_with (is_symbol (code ")")) ts && is_inside (but_last ts)
    && not (has_top_level is_clause_word (inside ts))

-- How a condition is made: of parts joined by OR, of parts joined by AND, of NOT and what it negates, of brackets and what
-- they hold, or of nothing else.
pub data Form : Type 0 where
  AnyOf : List (List Token) → Form
  AllOf : List (List Token) → Form
  Negated : List Token → Form
  Bracketed : List Token → Form
  Atom : Form

-- the first of the five that fits, from the tokens with their places and from whether they are bracketed
abbrev pub form_of : List Placed → Bool → List Token → Form
form_of ms bracketed ts =
    if list_any (at_top_level is_or) ms then AnyOf (parts_between is_or ms)
    else (if list_any (at_top_level is_and) (without_owned false ms) then AllOf (parts_between is_and (without_owned false ms))
    else (if begins_with is_not ts then Negated (drop 1 ts)
    else (if bracketed then Bracketed (inside ts)
    else Atom)))

-- how these tokens are made
abbrev pub form : List Token → Form
form ts = form_of (placed ts) (is_bracketed ts) ts

-- the truth by the form, from the truth of its parts and, for an atom, its value
abbrev pub truth_by : (List Token → Truth) → Truth → Form → Truth
truth_by truth_of value (AnyOf parts) = or_all (map truth_of parts)
truth_by truth_of value (AllOf parts) = and_all (map truth_of parts)
truth_by truth_of value (Negated rest) = not3 (truth_of rest)
truth_by truth_of value (Bracketed inner) = truth_of inner
truth_by truth_of value Atom = value

-- the truth by so many steps
abbrev pub truth_within : ℕ → Valuation → List Token → Truth
truth_within zero facts ts = value_in facts ts
truth_within (suc steps) facts ts = truth_by (truth_within steps facts) (value_in facts ts) (form ts)

-- The truth of tokens. Each part is shorter than the whole, so as many steps as there are tokens are enough.
unfoldable pub truth : Valuation → List Token → Truth
truth facts ts = truth_within (length ts) facts ts

-- an atom: its truth is its value, whatever is known
abbrev pub IsAtom : List Token → Type 0
IsAtom ts = (facts : Valuation) → truth facts ts ≡ value_in facts ts
