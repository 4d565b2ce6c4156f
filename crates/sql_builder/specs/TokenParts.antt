-- A list of tokens, cut at the top-level tokens that pass a test.
use Rattle.std.specs.Prelude.{Bool, true, false, List, [], ◌∷◌, if◌then◌else◌, map}
use Rattle.sql_parts.specs.Fragments.{Placed, at_top_level, token_of}
use Rattle.sql_parts.specs.Tokens.{Token}

-- The tokens before the first divider, and each divider with the tokens up to the next.
pub record Parts : Type 0 where
  pub lead : List Token
  pub rest : List (Token × List Token)

-- one more token in front, a divider or not
abbrev pub with_front : Bool → Token → Parts → Parts
with_front true token parts = record { lead = []; rest = (token, parts.lead) ∷ parts.rest }
with_front false token parts = record { lead = token ∷ parts.lead; rest = parts.rest }

-- the dividers are the top-level tokens that pass the test
abbrev pub parts_at : (Token → Bool) → List Placed → Parts
parts_at test [] = record { lead = []; rest = [] }
parts_at test (found ∷ more) = with_front (at_top_level test found) (token_of found) (parts_at test more)

-- the tokens before the first divider, between each and the next, and after the last
abbrev pub all_parts : Parts → List (List Token)
all_parts parts = parts.lead ∷ map (λ part. part.1) parts.rest

-- the parts between the dividers
abbrev pub parts_between : (Token → Bool) → List Placed → List (List Token)
parts_between test ms = all_parts (parts_at test ms)

-- the tokens before the first divider, with their places
abbrev pub before_top_level : (Token → Bool) → List Placed → List Placed
before_top_level test [] = []
before_top_level test (found ∷ more) = if at_top_level test found then [] else found ∷ before_top_level test more

-- all but the last element
abbrev pub but_last : {X : Type 0} → List X → List X
but_last [] = []
but_last (x ∷ []) = []
but_last (x ∷ next ∷ xs) = x ∷ but_last (next ∷ xs)
