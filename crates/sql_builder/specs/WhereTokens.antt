-- The tokens of a WHERE that is made of groups of conditions.
use Prim.Native.Char.{code}
use Rattle.std.specs.Prelude.{List, [], ◌∷◌, ◌++◌, codes, map}
use Rattle.sql_parts.specs.Tokens.{Token, Word, Symbol}

-- lists, with a token between each and the next
abbrev pub joined : Token → List (List Token) → List Token
joined between [] = []
joined between (ts ∷ []) = ts
joined between (ts ∷ us ∷ more) = ts ++ between ∷ joined between (us ∷ more)

-- between brackets
unfoldable pub in_brackets : List Token → List Token
in_brackets ts = Symbol (code "(") ∷ ts ++ Symbol (code ")") ∷ []

-- the conditions of a group, with OR between them
abbrev pub group_tokens : List (List Token) → List Token
group_tokens conditions = joined (Word (codes "OR")) conditions

-- one group as it is, several in brackets with AND between them
unfoldable pub where_tokens : List (List (List Token)) → List Token
where_tokens [] = []
where_tokens (group ∷ []) = group_tokens group
where_tokens (group ∷ next ∷ more) = joined (Word (codes "AND")) (map (λ g. in_brackets (group_tokens g)) (group ∷ next ∷ more))
