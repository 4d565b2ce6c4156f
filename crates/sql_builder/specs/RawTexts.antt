-- The raw texts of calls, by where they are printed.
use Rattle.std.specs.Prelude.{ℕ, List}

-- A text that is printed unchanged: bare, or where top-level clause keywords change nothing, which is between brackets of the
-- builder's own, and behind UNION.
pub data RawText : Type 0 where
  Bare : List ℕ → RawText
  Enclosed : List ℕ → RawText
