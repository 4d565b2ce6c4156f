-- What the code reads of a statement's text, in the words of `Positional`.
use Rattle.std.specs.Prelude.{◌≡◌, ℕ, List, Option, Some, None, drop}
use Rattle.std.specs.Borrow.{Bor}
use Rattle.sql_parts.specs.Placeholders.{IsNumber}
use Rattle.sql_parts.specs.Positional as positional
use Rattle.sql_parts.specs.declared.marks.Mark.{Mark}
use Rattle.sql_parts.specs.declared.marks.Mark.TheVariants as seen

-- the code's mark is this one
abbrev pub IsMark : Mark → positional.Mark → Type 0
IsMark (seen.Numbered found) (positional.Numbered number) = IsNumber found number
IsMark seen.Bare positional.Bare = Unit {0}
IsMark found mark = ⊥

-- what the code read at the front of a text is what is defined
abbrev pub IsRead : List ℕ → Option Mark × Bor (List ℕ) → Option positional.Mark × ℕ → Type 0
IsRead behind (None, rest) (None, more) = rest.now ≡ drop more behind
IsRead behind (Some found, rest) (Some mark, more) = IsMark found mark × (rest.now ≡ drop more behind)
IsRead behind read given = ⊥
