-- What the code keeps of the BETWEENs that wait for their AND.
use Rattle.std.specs.Prelude.{ℕ, suc, ◌+◌, ◌==◌, ◌&&◌, ◌||◌, Bool, true, false, not, nat_le, List, [], ◌∷◌, codes, reverse}
use Rattle.sql_parts.specs.declared.dangling.OpenRanges.{OpenRanges}
use Rattle.sql_parts.specs.Fragments.{has_ands, is_joining, is_word, lowers, raises, weight}
use Rattle.sql_parts.specs.Tokens.{Token}

-- The AND of a BETWEEN is among the tokens: from the BETWEEN up to them so many tokens raised the depth and so many lowered
-- it. The depth doesn't fall under that of the BETWEEN before it, and no other AND, OR or BETWEEN has it.
abbrev pub is_answered : ℕ → ℕ → List Token → Bool
is_answered up down [] = false
is_answered up down (token ∷ ts) =
    (is_word (codes "AND") token && up == down)
    || ((nat_le down up && not (is_joining token && up == down)) && is_answered (up + weight raises token) (down + weight lowers token) ts)

-- Each BETWEEN that waits has its AND among the tokens: one that may wait at so many depths below their front, then one
-- that may wait at a depth less, and so on.
abbrev pub are_answered : ℕ → List Bool → List Token → Bool
are_answered height [] ts = true
are_answered height (waits ∷ outside) ts = (not waits || is_answered height 0 ts) && are_answered (suc height) outside ts

-- whether a BETWEEN waits: at the depth reached, and at each depth outside it
abbrev pub open_ranges : OpenRanges → List Bool
open_ranges ranges = ranges.waits ∷ reverse ranges.outside.items

-- the BETWEENs that wait, and those of the tokens, have their ANDs among the tokens
abbrev pub all_have_ands : OpenRanges → List Token → Bool
all_have_ands ranges ts = are_answered 0 (open_ranges ranges) ts && has_ands ts
