-- Items whose printed texts are never empty.
use Rattle.std.specs.Prelude.{ℕ, List, [], ◌∷◌, ◌++◌, Bool, true, false}
use Rattle.sql_builder.specs.Layout.{union_opening}

-- a text has a byte at least
abbrev pub HasByte : List ℕ → Type 0
HasByte [] = ⊥
HasByte (byte ∷ bytes) = Unit {0}

-- a query has one behind its words
pub union_has_byte : (all : Bool) (query : List ℕ) → HasByte (union_opening all ++ query)
union_has_byte true query = tt
union_has_byte false query = tt
