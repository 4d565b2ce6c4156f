-- Where a text may be in another one, by its first two bytes.
use Rattle.std.specs.Prelude.{ℕ, ◌+◌, ◌-◌, ◌==◌, ◌&&◌, min, List, Bool, length, slice_index}
use Rattle.sql_parts.specs.declared.search.Front.{Front}

-- how far the second byte of a text is behind the first one, or the only one behind itself
abbrev pub gap : List ℕ → ℕ
gap sought = min (length sought - 1) 1

-- the first two bytes of a text, or its only one twice
abbrev pub front_of : List ℕ → Front
front_of sought = record { first = slice_index sought 0; second = slice_index sought (gap sought); gap = gap sought }

-- a text has these bytes at this place
abbrev pub has_front : Front → List ℕ → ℕ → Bool
has_front front text at = (slice_index text at == front.first) && (slice_index text (at + front.gap) == front.second)
