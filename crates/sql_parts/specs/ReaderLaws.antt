-- What any reader makes of untrusted texts.
use Rattle.std.specs.Prelude.{◌≡◌, ◌↔◌, ◌++◌, ◌+◌, ℕ, Bool, IsTrue, List, [], ◌∷◌, Option, flat_map, length, option_map, take, unwrap_or}
use Rattle.std.specs.List.{All, list_all}
use Rattle.sql_parts.specs.Quoting.{closing, doubled, opening}
use Rattle.sql_parts.specs.Literal.{LiteralValue, literal_text, words}
use Rattle.sql_parts.specs.Readers.{Part, Constant, Doubled, Reader, DifferInDoubledTexts, IsInside, IsInsideAtEach, OpensLiteral, after, between_parts}
use Rattle.sql_parts.specs.Readers.{has_plain_text, inner_states, marks, outer_states, parts_bytes, states}
use Rattle.sql_parts.specs.Templates.{Marks, Resolved, Replacement, bound, resolve}
use Rattle.sql_parts.specs.TextLaws.{DifferInTexts}
use Rattle.sql_parts.specs.declared.delimiters.Quotes.TheVariants.{Single}
use Rattle.sql_parts.specs.declared.delimiters.Quotes.{Quotes}

-- where a literal opens, a text of plain bytes that is written between these quotes leads where no text between quotes leads
abbrev pub LeadsAsNoText : Quotes → (List ℕ → List ℕ) → Type 0
LeadsAsNoText quotes written = (next : Reader) (plain : ℕ → Bool) (state : ℕ) (text : List ℕ) → OpensLiteral next plain quotes state
    → IsTrue (list_all plain text) → after next state (written text) ≡ after next state (written [])

-- and until its last byte the reader was inside, but behind the first of two delimiters
abbrev pub IsInsideUntilItsEnd : Quotes → (List ℕ → List ℕ) → Type 0
IsInsideUntilItsEnd quotes written = (next : Reader) (plain : ℕ → Bool) (state : ℕ) (text : List ℕ) → OpensLiteral next plain quotes state
    → IsTrue (list_all plain text)
    → let inside = next state (opening quotes) in
    let ended = next inside (closing quotes) in
    states next state (written text) ≡ inside ∷ inner_states inside ended (closing quotes) text ++ ended ∷ []

-- inside of a literal, a text of plain bytes that is written with its delimiters doubled leads nowhere else
abbrev pub StaysInside : Quotes → (List ℕ → List ℕ) → Type 0
StaysInside quotes written = (next : Reader) (plain : ℕ → Bool) (state : ℕ) (text : List ℕ) → IsInside next plain (closing quotes) state
    → IsTrue (list_all plain text) → after next state (written text) ≡ state

-- Parts that differ only in texts of plain bytes, at each of which the reader is inside of a literal in the one: it is so in the other
-- too, and goes through the same states outside of these texts.
abbrev pub ReadersIgnoreDoubledTexts : Type 0
ReadersIgnoreDoubledTexts = (next : Reader) (plain : ℕ → Bool) (state : ℕ) (one other : List Part) → DifferInDoubledTexts one other
    → IsTrue (list_all (has_plain_text plain) one) → IsTrue (list_all (has_plain_text plain) other) → IsInsideAtEach next plain state one
    → IsInsideAtEach next plain state other
    × (outer_states next state (marks one) (parts_bytes one) ≡ outer_states next state (marks other) (parts_bytes other))

-- how many bytes precede each text whose delimiters are doubled, and its delimiter
abbrev pub places_from : ℕ → List Part → List (ℕ × ℕ)
places_from before [] = []
places_from before (Constant text ∷ parts) = places_from (before + length text) parts
places_from before (Doubled delimiter text ∷ parts) = (before, delimiter) ∷ places_from (before + length (doubled delimiter text)) parts

-- The reader is inside of a literal at each such part exactly where it is so at each of these places in the bytes, behind the bytes that
-- precede it.
abbrev pub PartsAreAtPlaces : Type 0
PartsAreAtPlaces = (next : Reader) (plain : ℕ → Bool) (state : ℕ) (parts : List Part)
    → IsInsideAtEach next plain state parts
    ↔ All (λ place. IsInside next plain place.1 (after next state (take place.0 (parts_bytes parts)))) (places_from 0 parts)

-- ---- binding

-- the parts of a literal: a text is between quotes
abbrev pub literal_parts : LiteralValue → List Part
literal_parts (words text) = between_parts Single text
literal_parts literal = Constant (literal_text literal) ∷ []

-- the parts of a template with these literals in it
abbrev pub resolved_parts : (Replacement → LiteralValue) → Resolved → List Part
resolved_parts literals resolved =
    Constant resolved.0 ∷ flat_map (λ part. literal_parts (literals part.0) ++ Constant part.1 ∷ []) resolved.1

-- the parts of a bound text; none where the template can't be bound
abbrev pub bound_parts : List ℕ → Marks → (Replacement → LiteralValue) → List Part
bound_parts template placeholders literals = unwrap_or (option_map (resolved_parts literals) (resolve template placeholders)) []

-- Literals that differ only in texts, of plain bytes, where a reader is inside of a string at each of these in the one bound text: it is
-- so in the other, and goes through the same states outside of these texts, or neither can be bound.
abbrev pub ReadersIgnoreBoundTexts : Type 0
ReadersIgnoreBoundTexts = (next : Reader) (plain : ℕ → Bool) (state : ℕ) (template : List ℕ) (placeholders : Marks) (one other : Replacement → LiteralValue)
    → DifferInTexts one other → IsTrue (list_all (has_plain_text plain) (bound_parts template placeholders one))
    → IsTrue (list_all (has_plain_text plain) (bound_parts template placeholders other))
    → IsInsideAtEach next plain state (bound_parts template placeholders one)
    → let outside : (Replacement → LiteralValue) → Option (List ℕ) =
    λ literals. option_map (outer_states next state (marks (bound_parts template placeholders literals))) (bound template placeholders literals) in
    IsInsideAtEach next plain state (bound_parts template placeholders other) × (outside one ≡ outside other)
